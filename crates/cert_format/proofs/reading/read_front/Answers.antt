-- One piece after another.
use Rattle.std.proofs.Common.{ap, arith, map, subst, sym, take, ◌∙◌}
use Rattle.std.proofs.lemmas.List.{take_rest}
use Rattle.cert_format.specs.Marks.{node_of}
use Rattle.cert_format.specs.Progress.{Progress}
use Rattle.cert_format.specs.Readers.{IsFed, bound_with, nodes_with}
use Rattle.cert_format.proofs.ReaderLaws.{piece_is_read, pieces_are_read, progress_of-nothing}
use Rattle.cert_format.proofs.reading.read_front.Goals as goal

pub loop-at-init : goal.loop-at-init
loop-at-init c = record {
  stands = c.start-reader.ensures.stands;
  bound = ap (λ (progress : Progress). progress.bound) (sym progress_of-nothing);
  nodes = ap (map node_of) c.new.ensures ∙ ap (λ (progress : Progress). progress.nodes) (sym progress_of-nothing);
  within = omega arith;
}

pub loop-at-preserved : goal.loop-at-preserved
loop-at-preserved c =
    let fed =
    subst (λ rest. IsFed (take c.loop-at.at c.args.bytes.now) (take c.in_ok-count.count rest) c.in_ok-count.event c.feed.new.self) (take_rest c.args.bytes.now c.loop-at.at)
    (c.in_ok-count.ensures.fed (take c.loop-at.at c.args.bytes.now) c.loop-at.invariant.stands) in
    let read = piece_is_read c.args.bytes.now c.loop-at.at c.in_ok-count.count c.in_ok-count.event c.feed.new.self fed in
    record {
      stands = read.0;
      bound = c.in_ok-add.ensures.bound ∙ ap (bound_with c.in_ok-count.event) c.loop-at.invariant.bound ∙ sym read.1;
      nodes = c.in_ok-add.ensures.nodes ∙ ap (nodes_with c.in_ok-count.event) c.loop-at.invariant.nodes ∙ sym read.2;
      within = omega (arith, c.in_ok-count.ensures.consumed);
    }

pub returns : goal.returns
returns c =
    pieces_are_read c.args.bytes.now c.loop-at.at c.loop-at.front.bound (map node_of c.loop-at.front.nodes) c.finish-front.result c.loop-at-test.false c.loop-at.invariant.bound c.loop-at.invariant.nodes
    (c.finish-front.ensures (take c.loop-at.at c.args.bytes.now) c.loop-at.invariant.stands)
