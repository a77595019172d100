-- What a setting that is said leaves. Assumes nothing.
use Rattle.std.specs.Prelude.{Some, None, Ok, Err, Option, Result}
use Rattle.script.specs.declared.error.Problem.{Problem}
use Rattle.script.specs.declared.error.Problem.TheVariants.{SaidTwice}

-- A setting is said once: the second time is refused, and what was said first stays.
abbrev pub first_said : {A : Type 0} → Option A → A → Option A
first_said None x = Some x
first_said (Some y) x = Some y

-- The answer to a setting, by what was said before.
abbrev pub said_once : {A : Type 0} → Option A → Result (Unit {0}) Problem
said_once None = Ok tt
said_once (Some y) = Err SaidTwice
