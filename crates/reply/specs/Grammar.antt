-- What a reply is, in the words of RFC 959, section 4.2. Assumes nothing.
use Rattle.std.specs.Prelude.{◌≡◌, ℕ, ◌≤◌, true, List, [], ◌∷◌, ◌++◌, length, take, Some, None, Ok, Err, Result, ◌≢◌}
use Rattle.std.specs.List.{concat}
use Rattle.command.specs.declared.fault.Fault.{Fault}
use Rattle.reply.specs.declared.reply.Reply.{Reply}
use Rattle.reply.specs.declared.reply.Rule.{Rule}
use Rattle.reply.specs.declared.lines.Last.{Last}
use Rattle.reply.specs.Lines.{begun, last_of, ender}

-- something holds of each element of a list, said down the list and not by index as the library's `All`
abbrev pub Each : {A : Type 0} → (A → Type 0) → List A → Type 0
Each P [] = Unit {0}
Each P (x ∷ xs) = P x × Each P xs

-- a line ends with its only byte 10
pub record Line (l : List ℕ) : Type 0 where
  pub text : List ℕ
  pub ends : l ≡ text ++ 10 ∷ []
  pub only : Each (λ b. b ≢ 10) text

-- the last of some lines ends its reply, with its digits as the code, and none before it does
abbrev pub EndsWith : Last → List (List ℕ) → ℕ → Type 0
EndsWith last [] code = ⊥
EndsWith last (l ∷ []) code = ender last l ≡ Some code
EndsWith last (l ∷ m ∷ ls) code = (ender last l ≡ None) × EndsWith last (m ∷ ls) code

-- Some bytes are a reply with a code: they are lines, the first is well begun, exactly the last one ends it (by the rule and
-- the first line), and its digits are the code.
pub record IsReply (rule : Rule) (bytes : List ℕ) (code : ℕ) : Type 0 where
  pub first : List ℕ
  pub more : List (List ℕ)
  pub whole : bytes ≡ concat (first ∷ more)
  pub lines : Each Line (first ∷ more)
  pub opens : begun first ≡ true
  pub ends : EndsWith (last_of rule first) (first ∷ more) code

-- a reply was read from the bytes coming: those at their front, within the limit
pub record Arrived (rule : Rule) (limit : ℕ) (coming : List ℕ) (c : Reply) : Type 0 where
  pub is : IsReply rule (take c.length coming) c.code
  pub within : c.length ≤ limit
  pub came : c.length ≤ length coming

-- no reply of at most the limit's length stands at the front of the bytes coming
abbrev pub NoReply : Rule → ℕ → List ℕ → Type 0
NoReply rule limit coming = (k code : ℕ) → k ≤ limit → IsReply rule (take k coming) code → ⊥

-- what an answer says of the bytes coming
abbrev pub ByGrammar : Rule → ℕ → List ℕ → Result Reply Fault → Type 0
ByGrammar rule limit coming (Ok c) = Arrived rule limit coming c
ByGrammar rule limit coming (Err _) = NoReply rule limit coming

-- at most one beginning of some bytes is a reply, and with one code
abbrev pub OneReading : Type 0
OneReading = (rule : Rule) (bytes p q x y : List ℕ) (c d : ℕ) → bytes ≡ p ++ x → bytes ≡ q ++ y → IsReply rule p c → IsReply rule q d → (p ≡ q) × (c ≡ d)
