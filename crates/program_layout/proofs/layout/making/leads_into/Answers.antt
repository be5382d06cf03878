use Rattle.std.proofs.Common.{◌∙◌, ap, sym, ℕ, List, ◌==◌}
use Rattle.std.specs.List.{list_any}
use Rattle.ct_base.specs.Access.{targets}
use Rattle.ct_base.specs.declared.cell.Out.{Out}
use Rattle.program_layout.proofs.LayoutLaws.{branch_into}
use Rattle.program_layout.proofs.layout.making.leads_into.Goals as goal

pub returns-in-Turns : goal.returns-in-Turns
returns-in-Turns c =
    c.turn_into.ensures ∙ ap (λ (branches : List (ℕ × ℕ)). list_any (λ (branch : ℕ × ℕ). branch.0 == c.args.i) branches) c.as_slice.ensures
    ∙ branch_into c.args.i c.in-Turns.turns ∙ ap (λ (out : Out). list_any (λ target. target == c.args.i) (targets out)) (sym c.in-Turns.is)
