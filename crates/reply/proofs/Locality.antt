-- What is known of a reply that is finished or not, and of the bytes that it took. Assumes nothing.
use Rattle.std.proofs.Common.{◌≡◌, ℕ, ◌<◌, ◌≤◌, List, [], ◌++◌, length, Ok, Err, Result, sym, refl, ap, subst, arith}
use Rattle.link.specs.declared.wire.Ending.{Ending}
use Rattle.command.specs.declared.refusal.Refusal.TheVariants.{ReplyTooLong, ReplyIllBegun}
use Rattle.reply.specs.declared.reply.Reply.{Reply}
use Rattle.reply.specs.declared.reply.Rule.{Rule}
use Rattle.reply.specs.Replies.{Unread, Cut, cut, lost, reply, count}
use Rattle.reply.proofs.Replies.{Way, finished, ill, ended as cut_off, too_long as over_long, reply_took as bytes_of}

-- why a reply is not finished; where the link has ended, nothing is left
pub data Reason (ending : Ending) (u : Unread) (rest : List ℕ) : Type 0 where
  ended : u.why ≡ lost ending → rest ≡ [] → Reason ending u rest
  too_long : u.why ≡ ReplyTooLong → Reason ending u rest
  ill_begun : u.why ≡ ReplyIllBegun → Reason ending u rest

-- what is known of a reply: finished, it has a byte; else there is a reason
abbrev pub Known : Ending → Result Reply Unread → List ℕ → Type 0
Known ending (Ok c) rest = 0 < c.length
Known ending (Err u) rest = Reason ending u rest

module _ (limit : ℕ) (ending : Ending) where
  -- by the way in which its bytes were taken
  known_by : (took : List ℕ) (p : Cut) → Way limit ending 0 took p → Known ending p.got p.rest
  known_by took p (finished c e long some within) = let h : 0 < c.length = omega arith in subst (λ r. Known ending r p.rest) (sym e) h
  known_by took p (ill e some within) = subst (λ r. Known ending r p.rest) (sym e) (ill_begun refl)
  known_by took p (cut_off e none within) = subst (λ r. Known ending r p.rest) (sym e) (ended refl none)
  known_by took p (over_long k e long is) = subst (λ r. Known ending r p.rest) (sym e) (too_long refl)

  stored_by : (took : List ℕ) (p : Cut) → Way limit ending 0 took p → count p.got ≤ length took
  stored_by took p (finished c e long some within) = let i = ap count e in omega arith
  stored_by took p (ill e some within) = let i = ap count e in omega arith
  stored_by took p (cut_off e none within) = let i = ap count e in omega arith
  stored_by took p (over_long k e long is) = let i = ap count e in omega arith

  -- the bytes that a reply takes of those coming: alone they give the same, and nothing is left
  pub record Took (rule : Rule) (bs : List ℕ) : Type 0 where
    pub took : List ℕ
    pub whole : bs ≡ took ++ (reply rule limit ending bs).rest
    pub same : reply rule limit ending took ≡ cut (reply rule limit ending bs).got []
    pub stored : count (reply rule limit ending bs).got ≤ length took
    pub known : Known ending (reply rule limit ending bs).got (reply rule limit ending bs).rest

  -- each reply takes such bytes
  pub reply_took : (rule : Rule) (bs : List ℕ) → Took rule bs
  reply_took rule bs =
      let a = bytes_of limit ending rule bs in
      record { took = a.took; whole = a.whole; same = a.same; stored = stored_by a.took _ a.way; known = known_by a.took _ a.way }
