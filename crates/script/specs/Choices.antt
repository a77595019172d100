-- What each word says where one of several may stand. Assumes nothing.
use Rattle.std.specs.Prelude.{ℕ, Bool, true, false, cond, List, [], ◌∷◌, Some, None, codes, Option}
use Rattle.carrier.specs.declared.address.PeerRule.{PeerRule}
use Rattle.carrier.specs.declared.address.PeerRule.TheVariants.{ControlPeer, Any}
use Rattle.command.specs.declared.types.FormatControl.{FormatControl}
use Rattle.command.specs.declared.types.FormatControl.TheVariants.{NonPrint, Telnet, Asa}
use Rattle.link.specs.declared.wire.Ending.{Ending}
use Rattle.link.specs.declared.wire.Ending.TheVariants.{Closed, Broken}
use Rattle.script.specs.declared.choice.EncodingName.{EncodingName}
use Rattle.script.specs.declared.choice.EncodingName.TheVariants.{Utf8}
use Rattle.script.specs.declared.error.Problem.{Problem}
use Rattle.script.specs.declared.error.Problem.TheVariants.{MissingWord, UnknownChoice}
use Rattle.session.specs.declared.settings.Mode.{Mode}
use Rattle.session.specs.declared.settings.Mode.TheVariants.{Active, ExtendedPassive, Passive}
use Rattle.std.specs.Str.{bytes_eq}

-- What a word says by a table of words: nothing, where the table does not have it.
abbrev pub by_table : {A : Type 0} → List (List ℕ × A) → List ℕ → Option A
by_table [] w = None
by_table (row ∷ rows) w = cond (bytes_eq w row.0) (Some row.1) (by_table rows w)

-- How data connections are made.
abbrev pub mode_of : List ℕ → Option Mode
mode_of w =
    by_table ((codes "passive", Passive) ∷ ((codes "extended", ExtendedPassive) ∷ ((codes "active", Active) ∷ []))) w

-- Whether a switch is on.
abbrev pub switch_of : List ℕ → Option Bool
switch_of w = by_table ((codes "on", true) ∷ ((codes "off", false) ∷ [])) w

-- Whose data connections are accepted in active mode.
abbrev pub peer_rule_of : List ℕ → Option PeerRule
peer_rule_of w = by_table ((codes "peer", ControlPeer) ∷ ((codes "any", Any) ∷ [])) w

-- The encoding of the control connection.
abbrev pub encoding_name_of : List ℕ → Option EncodingName
encoding_name_of w = by_table ((codes "utf-8", Utf8) ∷ []) w

-- What comes after the server's bytes.
abbrev pub ending_of : List ℕ → Option Ending
ending_of w = by_table ((codes "closed", Closed) ∷ ((codes "broken", Broken) ∷ [])) w

-- The format of a type.
abbrev pub format_control_of : List ℕ → Option FormatControl
format_control_of w =
    by_table ((codes "nonprint", NonPrint) ∷ ((codes "telnet", Telnet) ∷ ((codes "asa", Asa) ∷ []))) w

-- Why no value comes of a word where one of several may stand: no word is there, or it is none of them.
abbrev pub unchosen : List ℕ → Problem
unchosen [] = MissingWord
unchosen (c ∷ cs) = UnknownChoice
