-- Command lines (RFC 959, sections 4.1 and 5.3), what each is asked before it is sent, and how byte 255 goes over the wire
-- (RFC 854). Assumes nothing.
use Rattle.std.specs.Prelude.{ℕ, ◌-◌, Bool, true, false, cond, not, ◌&&◌, ◌||◌, List, [], ◌∷◌, ◌++◌, length, take, Some, None, Ok, Err, Option, Result, ◌==◌, nat_le, slice_index}
use Rattle.encoding.specs.Code.{Code}
use Rattle.std.specs.Str.{bytes_eq}
use Rattle.text.specs.Utf8.{utf8}
use Rattle.command.specs.Verbs.{word}
use Rattle.std.specs.List.{list_all}
use Rattle.std.specs.Option.{option_map}
use Rattle.command.specs.declared.line.Command.{Command}
use Rattle.command.specs.declared.refusal.Refusal.{Refusal}
use Rattle.command.specs.declared.refusal.Refusal.TheVariants.{AreaTooShort, ArgumentTooLong, ArgumentNotUtf8, ArgumentNotOneLine, NoEncoding, LineNotEnded, LineNotOne}
use Rattle.command.specs.declared.verb.Verb.{Verb}
use Rattle.command.specs.declared.verb.Verb.TheVariants.{User, Pass, Cwd, Cdup, Dele, Rmd, Mkd, Rnfr, Rnto, «Type» as SetType, Noop, Quit}

-- a command's argument, if it has one
abbrev pub argument_of : Command → Option (List ℕ)
argument_of command = option_map (λ x. x.now) command.argument

-- an argument with the space before it; an empty argument is an argument
abbrev pub spaced : Option (List ℕ) → List ℕ
spaced None = []
spaced (Some argument) = 32 ∷ argument

-- the text of a line: the verb's word, the argument if there is one, CR and LF
abbrev pub text_of : Verb → Option (List ℕ) → List ℕ
text_of verb argument = word verb ++ (spaced argument ++ 13 ∷ 10 ∷ [])

-- whether a byte is sent once, since it is no 255
abbrev pub single : ℕ → Bool
single b = not (b == 255)

-- each byte 255 doubled, as Telnet sends it
abbrev pub escape : List ℕ → List ℕ
escape [] = []
escape (b ∷ bs) = cond (b == 255) (255 ∷ 255 ∷ escape bs) (b ∷ escape bs)

-- the rest of some bytes made single; `second` where the byte before it is a 255 that may be the first of two
abbrev pub unescape_on : Bool → List ℕ → List ℕ
unescape_on second [] = []
unescape_on true (b ∷ bs) = cond (b == 255) (unescape_on false bs) (b ∷ unescape_on false bs)
unescape_on false (b ∷ bs) = b ∷ unescape_on (b == 255) bs

-- in pairs from the left: two bytes 255 become one, and a lone one stays
abbrev pub unescape : List ℕ → List ℕ
unescape bytes = unescape_on false bytes

-- CR and LF
abbrev pub breaks_line : ℕ → Bool
breaks_line b = b == 13 || b == 10

-- free of CR and LF
abbrev pub one_line : List ℕ → Bool
one_line bs = list_all (λ b. not (breaks_line b)) bs

-- whether the last two bytes are CR and LF
abbrev pub line_ended : List ℕ → Bool
line_ended line = nat_le 2 (length line) && (slice_index line (length line - 2) == 13 && slice_index line (length line - 1) == 10)

-- what stands before the last two bytes
abbrev pub line_body : List ℕ → List ℕ
line_body line = take (length line - 2) line

-- why an argument is refused: it is longer than 4,096 bytes, not UTF-8, or not free of CR and LF
abbrev pub argument_refused : Option (List ℕ) → Option Refusal
argument_refused None = None
argument_refused (Some argument) =
    cond (nat_le (length argument) 4096) (cond (utf8 argument) (cond (one_line argument) None (Some ArgumentNotOneLine)) (Some ArgumentNotUtf8)) (Some ArgumentTooLong)

-- why an encoded line is refused: it does not end with CR LF, or has one of them before that
abbrev pub line_refused : List ℕ → Option Refusal
line_refused line = cond (line_ended line) (cond (one_line (line_body line)) None (Some LineNotOne)) (Some LineNotEnded)

-- what comes of a thing, unless there is a reason to refuse it
abbrev pub unless : {A : Type 0} → Option Refusal → Result A Refusal → Result A Refusal
unless None r = r
unless (Some refusal) r = Err refusal

-- an encoded line as it goes over the wire, if it is one line
abbrev pub checked : List ℕ → Result (List ℕ) Refusal
checked line = unless (line_refused line) (Ok (escape line))

-- a line is encoded in at most 4,352 bytes
abbrev pub encoded : Option (List ℕ) → Result (List ℕ) Refusal
encoded None = Err NoEncoding
encoded (Some line) = cond (nat_le (length line) 4352) (checked line) (Err NoEncoding)

-- a command's line as it goes over the wire, or the first question that it fails
unfoldable pub line_of : Code → Verb → Option (List ℕ) → Result (List ℕ) Refusal
line_of code verb argument = unless (argument_refused argument) (encoded (code.encode (text_of verb argument)))

-- a line that came through, with its bytes 255 doubled
abbrev pub escaped : Result (List ℕ) Refusal → Result (List ℕ) Refusal
escaped (Ok line) = Ok (escape line)
escaped (Err refusal) = Err refusal

-- the areas that a line is made in have at least 8,704 and 4,352 bytes
abbrev pub areas_serve : ℕ → ℕ → Bool
areas_serve wide narrow = nat_le 8704 wide && nat_le 4352 narrow

-- what is answered of a line in areas of some lengths
abbrev pub line_in : ℕ → ℕ → Result (List ℕ) Refusal → Result (List ℕ) Refusal
line_in wide narrow line = cond (areas_serve wide narrow) line (Err AreaTooShort)

-- the line that an answer tells of: as many bytes at the front of the area as it says
abbrev pub line_told : Result ℕ Refusal → List ℕ → Result (List ℕ) Refusal
line_told (Ok n) area = Ok (take n area)
line_told (Err refusal) area = Err refusal

-- how many bytes an answer tells of
abbrev pub line_length : Result ℕ Refusal → ℕ
line_length (Ok n) = n
line_length (Err refusal) = 0

-- what stands before the first space or CR
abbrev pub first_word : List ℕ → List ℕ
first_word [] = []
first_word (b ∷ bs) = cond (b == 32 || b == 13) [] (b ∷ first_word bs)

-- the one of some verbs that has a word
abbrev pub verb_among : List Verb → List ℕ → Option Verb
verb_among [] bytes = None
verb_among (v ∷ vs) bytes = cond (bytes_eq bytes (word v)) (Some v) (verb_among vs bytes)

-- all the verbs
abbrev pub verbs : List Verb
verbs = User ∷ Pass ∷ Cwd ∷ Cdup ∷ Dele ∷ Rmd ∷ Mkd ∷ Rnfr ∷ Rnto ∷ SetType ∷ Noop ∷ Quit ∷ []

-- the verb of a text: the one whose word stands before its first space or CR
abbrev pub verb_read : List ℕ → Option Verb
verb_read text = verb_among verbs (first_word text)
