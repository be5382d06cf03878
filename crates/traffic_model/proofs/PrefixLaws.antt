-- Laws of the first steps of a run: they depend on the letters of these steps alone, and their delay never falls.
use Rattle.std.proofs.Common.{◌≡◌, ℕ, zero, suc, ◌<◌, ◌≤◌, List, sum, refl, ap, arith}
use Rattle.ct_base.specs.declared.cell.Cell.{Cell}
use Rattle.ct_base.specs.declared.plan.Letter.{Letter}
use Rattle.listed.proofs.SumLaws.{sum_below-fewer, sum_below-same}
use Rattle.traffic_model.specs.Delay.{delay_of, left_of, step_delay}
use Rattle.traffic_model.specs.Occupancy.{occupancies}

-- the letters of the steps before t alone decide what the cells hold at step t
pub occupancies-agree : (cells : List Cell) (f g : ℕ → List Letter) (k : ℕ) → ((u : ℕ) → u < k → f u ≡ g u) →
    (t : ℕ) → t ≤ k → occupancies cells f t ≡ occupancies cells g t
unfolding occupancies
occupancies-agree cells f g k same zero within = refl
occupancies-agree cells f g k same (suc t) within =
    let before : occupancies cells f t ≡ occupancies cells g t = occupancies-agree cells f g k same t (omega arith) in
    let shown : f t ≡ g t = same t (omega arith) in
    cc

-- and the delay of the first k steps
pub delay_of-agree : (cells : List Cell) (f g : ℕ → List Letter) (k : ℕ) → ((u : ℕ) → u < k → f u ≡ g u) → delay_of cells f k ≡ delay_of cells g k
unfolding delay_of
delay_of-agree cells f g k same =
    sum_below-same k (λ t. step_delay cells (f t) (occupancies cells f t)) (λ t. step_delay cells (g t) (occupancies cells g t))
    (λ t before.
    let held : occupancies cells f t ≡ occupancies cells g t = occupancies-agree cells f g k same t (omega arith) in
    let shown : f t ≡ g t = same t before in
    cc)

-- and what is left after them
pub left_of-agree : (cells : List Cell) (f g : ℕ → List Letter) (k : ℕ) → ((u : ℕ) → u < k → f u ≡ g u) → left_of cells f k ≡ left_of cells g k
unfolding left_of
left_of-agree cells f g k same = ap sum (occupancies-agree cells f g k same k (omega arith))

-- more steps have no less delay
pub delay_of-grows : (cells : List Cell) (letters : ℕ → List Letter) (j k : ℕ) → j ≤ k → delay_of cells letters j ≤ delay_of cells letters k
unfolding delay_of
delay_of-grows cells letters j k le = sum_below-fewer j k (λ t. step_delay cells (letters t) (occupancies cells letters t)) le
