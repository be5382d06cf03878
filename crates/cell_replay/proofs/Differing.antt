-- The first step at which plans differ, word by word.
use Rattle.std.proofs.Common.{◌≡◌, ◌≢◌, ℕ, ◌+◌, ◌<◌, ◌≤◌, inl, inr, List, [], length, get_or, ap, ◌∙◌, sym, subst, arith, ext_get_or}
use Rattle.std.proofs.lemmas.Bool.{cases_eq, cases_lt}
use Rattle.ct_base.specs.declared.net.Net.{Net}
use Rattle.ct_base.specs.declared.plan.Letter.{Letter}
use Rattle.ct_base.specs.declared.plan.Letter.TheVariants.{Clear}
use Rattle.ct_base.specs.declared.plan.Plan.{Plan}
use Rattle.traffic_model.proofs.TrafficLaws.{length-letters_at, letters_at-signal}
use Rattle.traffic_model.specs.Delay.{letters_at}
use Rattle.cell_replay.specs.Keeps.{IsFirstChange}

-- the letter of word s at step t
abbrev pub letter : List (List Letter) → ℕ → ℕ → Letter
letter words s t = get_or (get_or words s []) t (Clear 0)

-- the first so many words show the same up to a step, and others at it where it is before the end
pub record PartAt (olds news : List (List Letter)) (words steps first : ℕ) : Type 0 where
  pub within : first ≤ steps
  pub same : (s t : ℕ) → s < words → t < first → letter olds s t ≡ letter news s t
  pub changes : first < steps → (s : ℕ) × (s < words) × (letter olds s first ≢ letter news s first)

-- one word more
pub one_word_more : (olds news : List (List Letter)) (i steps first next : ℕ) (old new : List Letter) → PartAt olds news i steps first →
    old ≡ get_or olds i [] → new ≡ get_or news i [] → next ≤ first →
    ((t : ℕ) → t < next → get_or old t (Clear 0) ≡ get_or new t (Clear 0)) → (next < first → get_or old next (Clear 0) ≢ get_or new next (Clear 0)) →
    PartAt olds news (i + 1) steps next
one_word_more olds news i steps first next old new before old_is new_is within same differs =
    let olds_at : (t : ℕ) → get_or old t (Clear 0) ≡ letter olds i t = λ t. ap (λ (word : List Letter). get_or word t (Clear 0)) old_is in
    let news_at : (t : ℕ) → get_or new t (Clear 0) ≡ letter news i t = λ t. ap (λ (word : List Letter). get_or word t (Clear 0)) new_is in
    record {
      within = omega (arith, before.within);
      same = λ s t below earlier.
          elim (cases_eq s i) [
            | inl e ↦ rw e (sym (olds_at t) ∙ same t earlier ∙ news_at t)
            | inr ne ↦ before.same s t (omega arith) (omega arith)
          ];
      changes = λ earlier.
          elim (cases_lt next first) [
            | inl lt ↦ (i, omega arith, λ equal. differs lt (olds_at next ∙ equal ∙ sym (news_at next)))
            | inr ge ↦
                let stays : next ≡ first = omega arith in
                let others = before.changes (omega arith) in
                (others.0, omega (arith, others.1), subst (λ (k : ℕ). letter olds others.0 k ≢ letter news others.0 k) (sym stays) others.2)
          ];
    }

-- all words
pub first_change_of : (net : Net) (old new : Plan) (words first : ℕ) → words ≡ length old.words → length new.words ≡ length old.words →
    PartAt old.words new.words words net.steps first → IsFirstChange net old new first
first_change_of net old new words first all as_many parts = record {
  within = parts.within;
  same = λ t before.
      ext_get_or (Clear 0) (letters_at old.words t) (letters_at new.words t) (length-letters_at old.words t ∙ sym as_many ∙ sym (length-letters_at new.words t))
      (λ s within.
      let below : s < length old.words = omega (arith, length-letters_at old.words t) in
      letters_at-signal old.words t s below ∙ parts.same s t (omega arith) before ∙ sym (letters_at-signal new.words t s (omega arith)));
  changes = λ before equal.
      let others = parts.changes before in
      let below : others.0 < length old.words = omega (arith, others.1) in
      others.2
      (sym (letters_at-signal old.words first others.0 below)
      ∙ ap (λ (letters : List Letter). get_or letters others.0 (Clear 0)) equal
      ∙ letters_at-signal new.words first others.0 (omega arith));
}
