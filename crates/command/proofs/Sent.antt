-- Every line that is sent is whole and short and reads back, whichever the encoding. Assumes nothing.
use Rattle.std.proofs.Common.{◌≡◌, ℕ, ◌+◌, ◌-◌, ◌<◌, ◌≤◌, Bool, true, false, cond, not, ◌&&◌, eqb, leb, List, [], ◌∷◌, ◌++◌, length, get_or, take, drop, Some, None, Ok, Err, Option, Result, sym, refl, ap, ◌∙◌, arith}
use Rattle.std.proofs.lemmas.List.{take-append-drop, drop_more, drop_all}
use Rattle.std.proofs.lemmas.Bool.{and_parts, or_parts, leb-true, eqb-true}
use Rattle.encoding.specs.Code.{Code, Back}
use Rattle.command.specs.Laws.{Plain, Whole}
use Rattle.command.specs.Lines.{argument_refused, breaks_line, one_line, line_ended, line_body, line_refused, unless, checked, encoded, escape, unescape, unescape_on, line_of, text_of, verb_read}
use Rattle.command.specs.declared.refusal.Refusal.{Refusal}
use Rattle.command.specs.declared.refusal.Refusal.TheVariants.{NoEncoding, LineNotEnded, LineNotOne}
use Rattle.command.specs.declared.verb.Verb.{Verb}
use Rattle.command.specs.declared.verb.Verb.TheVariants.{User, Pass, Cwd, Cdup, Dele, Rmd, Mkd, Rnfr, Rnto, «Type» as SetType, Noop, Quit}
use Rattle.command.proofs.Makes.{escape_short}

escape-append : (xs ys : List ℕ) → escape (xs ++ ys) ≡ escape xs ++ escape ys
escape-append [] ys = refl
escape-append (b ∷ xs) ys = go (escape-append xs ys) (eqb b 255)
  where
    go : escape (xs ++ ys) ≡ escape xs ++ escape ys
        → (t : Bool) → cond t (255 ∷ 255 ∷ escape (xs ++ ys)) (b ∷ escape (xs ++ ys)) ≡ cond t (255 ∷ 255 ∷ escape xs) (b ∷ escape xs) ++ escape ys
    go e true = ap (λ z. 255 ∷ 255 ∷ z) e
    go e false = ap (λ z. b ∷ z) e

pub escape_back : (l : List ℕ) → unescape (escape l) ≡ l
escape_back [] = refl
escape_back (b ∷ l) = go (escape_back l) (eqb b 255) refl
  where
    go : unescape (escape l) ≡ l → (t : Bool) → eqb b 255 ≡ t → unescape (cond t (255 ∷ 255 ∷ escape l) (b ∷ escape l)) ≡ b ∷ l
    go back true e = ap (λ z. 255 ∷ z) back ∙ ap (λ z. z ∷ l) (sym (eqb-true b 255 e))
    go back false e = ap (λ t. b ∷ unescape_on t (escape l)) e ∙ ap (λ z. b ∷ z) back

-- what is free of CR and LF stays so when its 255s are doubled
plain_escape : (bs : List ℕ) → one_line bs ≡ true → Plain (escape bs)
plain_escape [] h = tt
plain_escape (b ∷ bs) h = first (λ e. plain_escape bs e) (breaks_line b) refl h
  where
    rest : (t : Bool) → breaks_line b ≡ false → Plain (escape bs) → Plain (cond t (255 ∷ 255 ∷ escape bs) (b ∷ escape bs))
    rest true e more = (refl, refl, (refl, refl, more))
    rest false e more = let p = or_parts (eqb b 13) (eqb b 10) e in (p.0, p.1, more)

    first : (one_line bs ≡ true → Plain (escape bs)) → (t : Bool) → breaks_line b ≡ t → (not t && one_line bs) ≡ true → Plain (cond (eqb b 255) (255 ∷ 255 ∷ escape bs) (b ∷ escape bs))
    first more true e h = let z : ◌≡◌ {A = ℕ} 0 1 = cc in absurd (omega arith)
    first more false e h = rest (eqb b 255) e (more h)

-- a line that is ended is its body with CR LF
ended_is : (line : List ℕ) → line_ended line ≡ true → line ≡ line_body line ++ 13 ∷ 10 ∷ []
ended_is line h =
    let p = and_parts (leb 2 (length line)) _ h in
    let q = and_parts (eqb (get_or line (length line - 2) 0) 13) _ p.1 in
    let long : 2 ≤ length line = leb-true 2 (length line) p.0 in
    let k = length line - 2 in
    let one : k < length line = omega arith in
    let two : k + 1 < length line = omega arith in
    let all : length line ≤ k + 1 + 1 = omega arith in
    let at : k + 1 ≡ length line - 1 = omega arith in
    let end : drop k line ≡ 13 ∷ 10 ∷ [] =
    drop_more line k 0 one
    ∙ ap (λ z. get_or line k 0 ∷ z) (drop_more line (k + 1) 0 two)
    ∙ ap (λ z. get_or line k 0 ∷ get_or line (k + 1) 0 ∷ z) (drop_all (k + 1 + 1) line all)
    ∙ ap (λ z. z ∷ get_or line (k + 1) 0 ∷ []) (eqb-true _ _ q.0)
    ∙ ap (λ z. 13 ∷ z ∷ []) (ap (λ i. get_or line i 0) at ∙ eqb-true _ _ q.1) in
    sym (take-append-drop k line) ∙ ap (λ z. take k line ++ z) end

-- what made a line
record Made (code : Code) (verb : Verb) (argument : Option (List ℕ)) (l : List ℕ) : Type 0 where
  line : List ℕ
  encodes : code.encode (text_of verb argument) ≡ Some line
  fits : length line ≤ 4352
  ended : line_ended line ≡ true
  one : one_line (line_body line) ≡ true
  is : l ≡ escape line

unless_passed : (why : Option Refusal) (r : Result (List ℕ) Refusal) (l : List ℕ) → unless why r ≡ Ok l → (why ≡ None) × (r ≡ Ok l)
unless_passed None r l e = (refl, e)
unless_passed (Some refusal) r l e = let z : ◌≡◌ {A = ℕ} 0 1 = cc in absurd (omega arith)

encoded_passed : (o : Option (List ℕ)) (l : List ℕ) → encoded o ≡ Ok l → (line : List ℕ) × (o ≡ Some line) × (length line ≤ 4352) × (checked line ≡ Ok l)
encoded_passed None l e = let z : ◌≡◌ {A = ℕ} 0 1 = cc in absurd (omega arith)
encoded_passed (Some line) l e = go (leb (length line) 4352) refl e
  where
    go : (b : Bool) → leb (length line) 4352 ≡ b → cond b (checked line) (Err NoEncoding) ≡ Ok l → (m : List ℕ) × (Some line ≡ Some m) × (length m ≤ 4352) × (checked m ≡ Ok l)
    go true fits e = (line, refl, leb-true _ _ fits, e)
    go false fits e = let z : ◌≡◌ {A = ℕ} 0 1 = cc in absurd (omega arith)

not_refused : (line : List ℕ) → line_refused line ≡ None → (line_ended line ≡ true) × (one_line (line_body line) ≡ true)
not_refused line e = go (line_ended line) (one_line (line_body line)) e
  where
    go : (a b : Bool) → cond a (cond b None (Some LineNotOne)) (Some LineNotEnded) ≡ None → (a ≡ true) × (b ≡ true)
    go true true e = (refl, refl)
    go true false e = let z : ◌≡◌ {A = ℕ} 0 1 = cc in absurd (omega arith)
    go false b e = let z : ◌≡◌ {A = ℕ} 0 1 = cc in absurd (omega arith)

made : (code : Code) (verb : Verb) (argument : Option (List ℕ)) (l : List ℕ) → line_of code verb argument ≡ Ok l → Made code verb argument l
unfolding line_of
made code verb argument l e =
    let asked = unless_passed (argument_refused argument) (encoded (code.encode (text_of verb argument))) l e in
    let w = encoded_passed (code.encode (text_of verb argument)) l asked.1 in
    let passed = unless_passed (line_refused w.0) (Ok (escape w.0)) l w.3 in
    let why = not_refused w.0 passed.0 in
    let same : Ok (escape w.0) ≡ Ok l = passed.1 in
    let is : l ≡ escape w.0 = cc in
    record { line = w.0; encodes = w.1; fits = w.2; ended = why.0; one = why.1; is = is }

pub line_whole : (code : Code) (verb : Verb) (argument : Option (List ℕ)) (l : List ℕ) → line_of code verb argument ≡ Ok l → Whole l
line_whole code verb argument l e =
    let m = made code verb argument l e in
    record {
      body = escape (line_body m.line);
      plain = plain_escape (line_body m.line) m.one;
      is = m.is ∙ ap escape (ended_is m.line m.ended) ∙ escape-append (line_body m.line) (13 ∷ 10 ∷ []);
    }

pub line_back : (code : Code) → Back code → (verb : Verb) (argument : Option (List ℕ)) (l : List ℕ) → line_of code verb argument ≡ Ok l → code.decode (unescape l) ≡ text_of verb argument
line_back code back verb argument l e =
    let m = made code verb argument l e in
    ap (λ z. code.decode (unescape z)) m.is ∙ ap code.decode (escape_back m.line) ∙ back (text_of verb argument) m.line m.encodes

pub line_short : (code : Code) (verb : Verb) (argument : Option (List ℕ)) (l : List ℕ) → line_of code verb argument ≡ Ok l → length l ≤ 8704
line_short code verb argument l e =
    let m = made code verb argument l e in
    omega (arith, m.fits, escape_short m.line, ap length m.is)

pub verb_back : (verb : Verb) (argument : Option (List ℕ)) → verb_read (text_of verb argument) ≡ Some verb
verb_back User None = refl
verb_back User (Some argument) = refl
verb_back Pass None = refl
verb_back Pass (Some argument) = refl
verb_back Cwd None = refl
verb_back Cwd (Some argument) = refl
verb_back Cdup None = refl
verb_back Cdup (Some argument) = refl
verb_back Dele None = refl
verb_back Dele (Some argument) = refl
verb_back Rmd None = refl
verb_back Rmd (Some argument) = refl
verb_back Mkd None = refl
verb_back Mkd (Some argument) = refl
verb_back Rnfr None = refl
verb_back Rnfr (Some argument) = refl
verb_back Rnto None = refl
verb_back Rnto (Some argument) = refl
verb_back SetType None = refl
verb_back SetType (Some argument) = refl
verb_back Noop None = refl
verb_back Noop (Some argument) = refl
verb_back Quit None = refl
verb_back Quit (Some argument) = refl
