-- Pairs of a row and its price that are lawful one by one.
use Rattle.std.proofs.Common.{◌≡◌, ℕ, ◌<◌, List, length, get_or, ap, arith}
use Rattle.std.specs.Prelude.{ℤ, pos}
use Rattle.std.proofs.lemmas.List.{get_or_default}
use Rattle.sparse_program.specs.declared.row.Row.{Row}
use Rattle.certificate_model.specs.Value.{AreLawful}
use Rattle.safe_bound.specs.inner.Pairs.{IsLawfulPair}

-- what holds of a pair holds of it whatever stands for one that is not there
at_any : (rows : List Row) (pairs : List (ℕ × ℤ)) (m : ℕ) (d : ℕ × ℤ) → m < length pairs → IsLawfulPair rows (get_or pairs m (0, pos 0)) → IsLawfulPair rows (get_or pairs m d)
at_any rows pairs m d below is = rw (get_or_default pairs m d (0, pos 0) below) is

-- pairs that are lawful one by one and whose rows rise are lawful
pub are_lawful : (rows : List Row) (pairs : List (ℕ × ℤ)) → ((m : ℕ) → m < length pairs → IsLawfulPair rows (get_or pairs m (0, pos 0))) →
    ((m n : ℕ) → m < n → n < length pairs → (get_or pairs m (0, pos 0)).0 < (get_or pairs n (0, pos 0)).0) → AreLawful rows pairs
are_lawful rows pairs each rises = record {
  there = λ m d below. (at_any rows pairs m d below (each m below)).there;
  rises = λ m n d before below.
      let first : (get_or pairs m d).0 ≡ (get_or pairs m (0, pos 0)).0 = ap (λ (pair : ℕ × ℤ). pair.0) (get_or_default pairs m d (0, pos 0) (omega arith)) in
      let second : (get_or pairs n d).0 ≡ (get_or pairs n (0, pos 0)).0 = ap (λ (pair : ℕ × ℤ). pair.0) (get_or_default pairs n d (0, pos 0) below) in
      omega (arith, first, second, rises m n before below);
  some = λ m d below. (at_any rows pairs m d below (each m below)).some;
  within = λ m d below. (at_any rows pairs m d below (each m below)).within;
  signed = λ m d below. (at_any rows pairs m d below (each m below)).signed;
}
