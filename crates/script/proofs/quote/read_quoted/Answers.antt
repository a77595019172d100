-- One piece more, and each way in which a text ends. Assumes nothing.
use Rattle.std.proofs.Common.{◌≡◌, ◌≤◌, Ok, length, sym, ap, subst, ◌∙◌, arith, length-drop}
use Rattle.std.proofs.lemmas.List.{take_rest}
use Rattle.std.proofs.lemmas.Result.{err_from_is_err_and}
use Rattle.script.specs.Quotes.{piece_of, FitsIn}
use Rattle.script.specs.declared.quote.Piece.TheVariants.{Byte, Close}
use Rattle.script.proofs.Quotes.{turn_err, still_its_end, still_read, all_read, fails_by}
use Rattle.script.proofs.quote.read_quoted.Goals as goal

pub returns-in_err-byte-clause-fails : goal.returns-in_err-byte-clause-fails
returns-in_err-byte-clause-fails c =
    let p = err_from_is_err_and c.from_residual.result c.from_residual.ensures.1 in
    rw (p.1, p.2) (fails_by _ _ (turn_err _ c.pieces.rest.now _ _ _ c.in_err-byte.ensures.value c.pieces.invariant.read))

piece : (c : goal.After-rest-1) → Ok (Byte c.in-Byte.byte c.in-Byte.length) ≡ piece_of c.pieces.rest.now
piece c = ap Ok (sym c.in-Byte.is) ∙ c.in_ok-byte.ensures.value

fits : (c : goal.After-rest-1) → c.in-Byte.length ≤ length c.pieces.rest.now
fits c =
    let within : FitsIn c.pieces.rest.now (Ok (Byte c.in-Byte.byte c.in-Byte.length))
    = subst (λ p. FitsIn c.pieces.rest.now (Ok p)) c.in-Byte.is c.in_ok-byte.ensures.within in
    within.1

pub pieces-preserved : goal.pieces-preserved
pieces-preserved c = record {
  fits = simp (take_rest, length-drop) (omega (arith, c.pieces.invariant.fits));
  rest =
      still_its_end c.args.text.now c.pieces.rest.now _ c.in-Byte.length (take_rest c.pieces.rest.now c.in-Byte.length) (fits c)
      c.pieces.invariant.fits c.pieces.invariant.rest;
  read =
      rw c.in_ok-push.ensures.items
      (still_read _ c.args.text.now c.pieces.rest.now _ _ c.in-Byte.length (take_rest c.pieces.rest.now c.in-Byte.length) (fits c)
      c.pieces.invariant.fits (piece c) c.pieces.invariant.read);
}

closed : (c : goal.After-result-1) → Ok Close ≡ piece_of c.pieces.rest.now
closed c = ap Ok (sym c.in_default.is) ∙ c.in_ok-byte.ensures.value

quote_fits : (c : goal.After-result-1) → 1 ≤ length c.pieces.rest.now
quote_fits c =
    let within : FitsIn c.pieces.rest.now (Ok Close) = subst (λ p. FitsIn c.pieces.rest.now (Ok p)) c.in_default.is c.in_ok-byte.ensures.within in
    omega (arith, within)

pub returns-clause-value : goal.returns-clause-value
returns-clause-value c =
    all_read _ c.args.text.now c.pieces.rest.now _ (take_rest c.pieces.rest.now 1) (quote_fits c)
    c.pieces.invariant.fits (closed c) c.pieces.invariant.read

pub returns-clause-rest : goal.returns-clause-rest
returns-clause-rest c =
    still_its_end c.args.text.now c.pieces.rest.now _ 1 (take_rest c.pieces.rest.now 1) (quote_fits c)
    c.pieces.invariant.fits c.pieces.invariant.rest
