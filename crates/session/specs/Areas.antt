-- The areas that a call is lent, and what they hold. Assumes nothing.
use Rattle.std.specs.Prelude.{◌≡◌, ℕ, ◌≤◌, List, length}
use Rattle.std.specs.Borrow.{MutBor}
use Rattle.session.specs.declared.areas.Areas.{Areas}
use Rattle.session.specs.Model.{Desk, desk}

-- slices that are lent, which a call may write to
abbrev pub LentAreas : Type 0
LentAreas = Areas (MutBor (List ℕ))

-- what they hold
abbrev pub desk_of : LentAreas → Desk
desk_of a = desk a.reply.now a.wide.now a.narrow.now

-- a call leaves the areas that it was lent where they were, each as long as it was
pub record SameAreas (a b : LentAreas) : Type 0 where
  pub reply : b.reply.ghost_name ≡ a.reply.ghost_name
  pub wide : b.wide.ghost_name ≡ a.wide.ghost_name
  pub narrow : b.narrow.ghost_name ≡ a.narrow.ghost_name
  pub reply_length : length b.reply.now ≡ length a.reply.now
  pub wide_length : length b.wide.now ≡ length a.wide.now
  pub narrow_length : length b.narrow.now ≡ length a.narrow.now

-- the reply area is as long as the limit, and the work areas have room for a line escaped and encoded
pub record Serve (limit : ℕ) (a : LentAreas) : Type 0 where
  pub reply : limit ≤ length a.reply.now
  pub wide : 8704 ≤ length a.wide.now
  pub narrow : 4352 ≤ length a.narrow.now
