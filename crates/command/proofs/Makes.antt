-- What the steps of making a line come to: its questions, its encoding, its doubled 255s. Assumes nothing.
use Rattle.std.proofs.Common.{◌≡◌, ℕ, ◌*◌, ◌≤◌, Bool, true, false, cond, eqb, leb, List, [], ◌∷◌, ◌++◌, length, take, drop, Some, None, Ok, Err, Option, Result, sym, refl, ap, ◌∙◌, arith, lit≤}
use Rattle.std.proofs.lemmas.List.{take_at, take-append-le, length-take}
use Rattle.std.proofs.lemmas.Bool.{le-leb}
use Rattle.text.specs.Area.{Filled, filled, laid, refused}
use Rattle.encoding.specs.Code.{Code}
use Rattle.command.specs.Lines.{argument_refused, unless, encoded, escape, line_of, text_of, line_told}
use Rattle.command.specs.declared.refusal.Refusal.{Refusal}
use Rattle.command.specs.declared.verb.Verb.{Verb}

pub unless_ok : {A : Type 0} (why : Option Refusal) (r : Result A Refusal) (x : Unit {0}) → Ok x ≡ unless why (Ok tt) → unless why r ≡ r
unless_ok None r x e = refl
unless_ok (Some refusal) r x e = let z : ◌≡◌ {A = ℕ} 0 1 = cc in absurd (omega arith)

pub unless_err : {A : Type 0} (why : Option Refusal) (r : Result A Refusal) (refusal : Refusal) → ◌≡◌ {A = Result (Unit {0}) Refusal} (Err refusal) (unless why (Ok tt)) → unless why r ≡ Err refusal
unless_err None r refusal e = let z : ◌≡◌ {A = ℕ} 0 1 = cc in absurd (omega arith)
unless_err (Some other) r refusal e = let s : other ≡ refusal = cc in ap (λ z. Err z) s

-- what was written, where an answer tells of it
filled_some : (bytes before after : List ℕ) (n : ℕ) → ◌≡◌ {A = Filled} (record { answer = Some n; area = after }) (filled (Some bytes) before) → take n after ≡ bytes
filled_some bytes before after n e = go (leb (length bytes) (length before)) e
  where
    go : (b : Bool)
        → ◌≡◌ {A = Filled} (record { answer = Some n; area = after }) (cond b (record { answer = Some (length bytes); area = laid bytes before }) (refused before))
        → take n after ≡ bytes
    go true e =
        let a : Some n ≡ Some (length bytes) = ap (λ (f : Filled). f.answer) e in
        let long : length bytes ≡ n = cc in
        ap (λ (f : Filled). take n f.area) e ∙ take_at bytes (drop (length bytes) before) n long
    go false e = let a : Some n ≡ None = ap (λ (f : Filled). f.answer) e in let z : ◌≡◌ {A = ℕ} 0 1 = cc in absurd (omega arith)

-- a refused argument ends it
pub line_refused_early : (code : Code) (verb : Verb) (o : Option (List ℕ)) (refusal : Refusal) → ◌≡◌ {A = Result (Unit {0}) Refusal} (Err refusal) (unless (argument_refused o) (Ok tt))
    → Err refusal ≡ line_of code verb o
unfolding line_of
line_refused_early code verb o refusal e = sym (unless_err (argument_refused o) (encoded (code.encode (text_of verb o))) refusal e)

-- with the argument passed, the rest hangs on the encoded text
pub line_from_text : (code : Code) (verb : Verb) (o : Option (List ℕ)) (before wide : List ℕ) (r : Option ℕ) (n : ℕ) (x : Unit {0}) → Ok x ≡ unless (argument_refused o) (Ok tt)
    → ◌≡◌ {A = Filled} (record { answer = r; area = wide }) (filled (Some (text_of verb o)) before) → r ≡ Some n
    → encoded (code.encode (take n wide)) ≡ line_of code verb o
unfolding line_of
line_from_text code verb o before wide r n x e wrote is =
    let text = filled_some (text_of verb o) before wide n (ap (λ (a : Option ℕ). record { answer = a; area = wide }) (sym is) ∙ wrote) in
    ap (λ t. encoded (code.encode t)) text ∙ sym (unless_ok (argument_refused o) (encoded (code.encode (text_of verb o))) x e)

pub escape_short : (line : List ℕ) → length (escape line) ≤ 2 * length line
escape_short [] = lit≤ tt
escape_short (b ∷ line) = go (eqb b 255) (escape_short line)
  where
    go : (t : Bool) → length (escape line) ≤ 2 * length line → length (cond t (255 ∷ 255 ∷ escape line) (b ∷ escape line)) ≤ 2 * length (b ∷ line)
    go true h = omega (arith, h)
    go false h = omega (arith, h)

-- doubled, a line of at most 4,352 bytes has at most 8,704
escape-fits : (bytes : List ℕ) (n : ℕ) → n ≤ 4352 → length (escape (take n bytes)) ≤ 8704
escape-fits bytes n h = omega (arith, escape_short (take n bytes), length-take n bytes)

-- the escaped line, where the area has room for it
module _ (narrow rest wide wide' : List ℕ) (n : ℕ) (r : Option ℕ) (short : n ≤ 4352) (inside : n ≤ length narrow) (room : 8704 ≤ length wide)
    (wrote : ◌≡◌ {A = Filled} (record { answer = r; area = wide' }) (filled (Some (escape (take n (narrow ++ rest)))) wide)) where
  abbrev line : List ℕ
  line = escape (take n (narrow ++ rest))

  filled_is : ◌≡◌ {A = Filled} (record { answer = r; area = wide' }) (record { answer = Some (length line); area = laid line wide })
  filled_is =
      wrote
      ∙ ap (λ b. cond b (record { answer = Some (length line); area = laid line wide }) (refused wide))
      (le-leb (length line) (length wide) (let z : length line ≤ length wide = omega (arith, escape-fits (narrow ++ rest) n short) in z))

  -- how long it is
  pub told_is : r ≡ Some (length line)
  told_is = ap (λ (f : Filled). f.answer) filled_is

  pub told_short : length line ≤ 8704
  told_short = escape-fits (narrow ++ rest) n short

  pub line_written : (k : ℕ) → r ≡ Some k → line_told (Ok k) wide' ≡ Ok (escape (take n narrow))
  line_written k is =
      let same : k ≡ length line = let e : Some k ≡ Some (length line) = sym is ∙ told_is in cc in
      ap (λ z. line_told (Ok z) wide') same
      ∙ ap (λ (f : Filled). line_told (Ok (length line)) f.area) filled_is
      ∙ ap (λ z. Ok z) (take_at line (drop (length line) wide) (length line) refl ∙ ap escape (take-append-le n narrow rest inside))

-- a length that is told is short where the line is
pub short_as : (r : Option ℕ) (k n : ℕ) → r ≡ Some k → r ≡ Some n → n ≤ 8704 → k ≤ 8704
short_as r k n is told short = let same : k ≡ n = let e : Some k ≡ Some n = sym is ∙ told in cc in omega (arith, same, short)
