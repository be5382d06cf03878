use Rattle.std.proofs.Common.{length, ◌∙◌, arith}
use Rattle.demand.proofs.DemandLaws.{rates_of-none, rates_are_small, rates_more}
use Rattle.demand.proofs.sums.add_pieces.Goals as goal

pub loop-piece-init : goal.loop-piece-init
loop-piece-init c = c.requires.empty ∙ rates_of-none (length c.args.rates.now)

pub add_piece-requires-clause-small : goal.add_piece-requires-clause-small
add_piece-requires-clause-small c = λ t within.
    rw c.loop-piece.invariant (rates_are_small c.args.pieces.now c.loop-piece.piece-index (length c.args.rates.now) t c.requires.rates c.requires.few (omega arith) (omega arith))

pub loop-piece-preserved : goal.loop-piece-preserved
loop-piece-preserved c =
    rates_more c.args.pieces.now c.loop-piece.piece-index (length c.args.rates.now) _ c.add_piece.new.rates (omega arith) (omega arith)
    (λ t within. let e = c.add_piece.ensures t (omega arith) in rw c.loop-piece.invariant at e)
