use Rattle.std.proofs.Common.{◌≡◌, ◌<◌, length, take, pos, arith, rules, ap, sym, ◌∙◌, length-take}
use Rattle.std.specs.Int.{w64}
use Rattle.std.specs.Prelude.{FitsSigned, ◌++◌, ◌∷◌, []}
use Rattle.std.proofs.lemmas.Int.{ints, to_z-of_z}
use Rattle.std.proofs.lemmas.List.{take_more}
use Rattle.program_model.specs.Numbers.{plan_count}
use Rattle.sparse_program.specs.Box.{high_of, low_of}
use Rattle.cert_check.proofs.ReasonFirsts.{plan_cols_of}
use Rattle.cert_check.proofs.judging.fixed.fixed_bits.Goals as goal

pub returns-then-low-high : goal.returns-then-low-high
returns-then-low-high c =
    let plan = plan_cols_of c.args.net.now c.args.program.now c.requires.program in
    record {
      column = c.loop-j.j;
      of_plan = omega (arith, plan);
      several = omega (arith, ints);
    }

pub loop-j-preserved : goal.loop-j-preserved
loop-j-preserved c =
    let box = c.args.costed.now.box in
    let same : low_of box c.loop-j.j ≡ high_of box c.loop-j.j = omega (arith, ints) in
    let there : c.loop-j.j < length box.lows = omega arith in
    let fits : FitsSigned w64 c.low-low.result = search rules in
    let more : c.push.new.self.items ≡ c.loop-j.bits.items ++ low_of box c.loop-j.j ∷ [] = rw c.low-low.ensures.value at (simp to_z-of_z at c.in_ok-push.ensures.items) in
    record {
      lows = more ∙ ap (λ xs. xs ++ low_of box c.loop-j.j ∷ []) c.loop-j.invariant.lows ∙ sym (take_more box.lows c.loop-j.j (pos 0) there);
      highs = more ∙ ap (λ xs. xs ++ low_of box c.loop-j.j ∷ []) c.loop-j.invariant.highs ∙ ap (λ z. take c.loop-j.j box.highs ++ z ∷ []) same ∙ sym (take_more box.highs c.loop-j.j (pos 0) (omega arith));
    }

pub returns : goal.returns
returns c =
    let box = c.args.costed.now.box in
    let plan = plan_cols_of c.args.net.now c.args.program.now c.requires.program in
    let end : c.loop-j.j ≡ plan_count c.args.net.now = omega (arith, plan) in
    record {
      one_per_column = ap length c.loop-j.invariant.lows ∙ (omega (arith, length-take c.loop-j.j box.lows, end));
      lows = sym (rw end at c.loop-j.invariant.lows);
      highs = sym (rw end at c.loop-j.invariant.highs);
    }
