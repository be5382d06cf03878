use Rattle.std.proofs.Common.{ℕ, ◌+◌, ◌∙◌, sym, refl}
use Rattle.std.specs.Prelude.{ℤ, pos, neg_ℤ}
use Rattle.listed.proofs.TableLaws.{table_of-zero}
use Rattle.program_model.specs.Columns.{Bit}
use Rattle.program_model.specs.Numbers.{number_of}
use Rattle.program_layout.proofs.LayoutLaws.{table_more}
use Rattle.lo_program.proofs.rules.lasting.terms_of_end.Goals as goal

pub loop-k-init : goal.loop-k-init
loop-k-init c = c.new-terms.ensures ∙ sym (table_of-zero (λ k. (number_of c.args.net.now (Bit (c.args.t + k) c.args.bits.now.signal c.args.letter), neg_ℤ (pos 1))))

pub loop-k-preserved : goal.loop-k-preserved
loop-k-preserved c =
    let f : ℕ → ℕ × ℤ = (λ k. (number_of c.args.net.now (Bit (c.args.t + k) c.args.bits.now.signal c.args.letter), neg_ℤ (pos 1))) in
    (rw c.bit.ensures at c.in_ok-push.ensures.ok) ∙ table_more c.loop-k.k f c.loop-k.terms (f c.loop-k.k) c.loop-k.invariant refl
