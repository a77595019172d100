-- Areas stay the same from one piece of a call to the next. Assumes nothing.
use Rattle.std.proofs.Common.{refl, ◌∙◌}
use Rattle.session.specs.Areas.{LentAreas, SameAreas}

-- areas are the same before anything is done, and after one thing and then another
pub same_first : (a : LentAreas) → SameAreas a a
same_first a = record { reply = refl; wide = refl; narrow = refl; reply_length = refl; wide_length = refl; narrow_length = refl }

pub same_then : (a b c : LentAreas) → SameAreas a b → SameAreas b c → SameAreas a c
same_then a b c p q = record {
  reply = q.reply ∙ p.reply;
  wide = q.wide ∙ p.wide;
  narrow = q.narrow ∙ p.narrow;
  reply_length = q.reply_length ∙ p.reply_length;
  wide_length = q.wide_length ∙ p.wide_length;
  narrow_length = q.narrow_length ∙ p.narrow_length;
}
