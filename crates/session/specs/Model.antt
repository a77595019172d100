-- What a session holds, whatever its link, carrier and encoding are made of; and what the areas hold that a call is lent.
-- Assumes nothing.
use Rattle.std.specs.Prelude.{ℕ, Bool, true, false, List, None, Option}
use Rattle.link.specs.Wire.{Wire}
use Rattle.carrier.specs.Deck.{Deck, close_of}
use Rattle.encoding.specs.Code.{Code}
use Rattle.session.specs.Limits.{clamped}
use Rattle.session.specs.declared.settings.Settings.{Settings}
use Rattle.session.specs.declared.session.Record.{Record}
use Rattle.session.specs.declared.session.Session.{Session}

-- what a session is: what its link, carrier and encoding mean, and what it remembers
pub record Model : Type 0 where
  pub wire : Wire
  pub deck : Deck
  pub code : Code
  pub kept : Record

-- a session's model, over what its parts mean
abbrev pub model : {L C E : Type 0} → (L → Wire) → (C → Deck) → (E → Code) → Session L C E → Model
model link carrier encoding s = record { wire = link s.link; deck = carrier s.carrier; code = encoding s.encoding; kept = s.kept }

-- the areas that a call is lent: for replies, and the two to work in
pub record Desk : Type 0 where
  pub reply : List ℕ
  pub wide : List ℕ
  pub narrow : List ℕ

-- the settings of a session that is made with st
abbrev pub settled : Settings → Settings
settled st = record st { limit = clamped st.limit }

-- a new session: nothing read, in step, no transfer open; the carrier is closed
abbrev pub fresh : Settings → Wire → Deck → Code → Model
fresh st w d c = record {
  wire = w;
  deck = close_of d;
  code = c;
  kept = record { settings = settled st; greeted = false; in_step = true; transfer_open = false; restart = None; completed = 0 };
}

-- three contents as what the areas hold
abbrev pub desk : List ℕ → List ℕ → List ℕ → Desk
desk reply wide narrow = record { reply = reply; wide = wide; narrow = narrow }

-- the most bytes of one reply
abbrev pub limit_of : Model → ℕ
limit_of m = m.kept.settings.limit

-- the model with one part changed, or one mark of its record
abbrev pub with_wire : Wire → Model → Model
with_wire w m = record m { wire = w }

-- another record
abbrev pub with_kept : Record → Model → Model
with_kept k m = record m { kept = k }

-- in step or not
abbrev pub with_step : Bool → Model → Model
with_step b m = with_kept (record m.kept { in_step = b }) m

-- greeted or not
abbrev pub with_greeted : Bool → Model → Model
with_greeted b m = with_kept (record m.kept { greeted = b }) m

-- another place for the next transfer to start
abbrev pub with_restart : Option ℕ → Model → Model
with_restart o m = with_kept (record m.kept { restart = o }) m
