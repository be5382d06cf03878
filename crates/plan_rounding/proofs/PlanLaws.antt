-- Laws of plans: the named ones are admissible, so is a plan with another word that its signal may show, and plans with the same bits
-- have the same delay.
use Rattle.std.proofs.Common.{◌≡◌, inl, inr, ℕ, ◌<◌, List, [], get_or, length, sym, ap, subst, ◌∙◌, arith}
use Rattle.std.specs.Prelude.{ℤ, pos, Bool, ◌==◌, if◌then◌else◌, take, IfOk, IfSome, Option, Result}
use Rattle.std.proofs.lemmas.Bool.{cases_eq, eq-eqb, ne_eqb}
use Rattle.std.proofs.lemmas.List.{get_or_default, take_all}
use Rattle.listed.specs.Below.{table_of}
use Rattle.listed.proofs.TableLaws.{get_or-table_of, length-table_of}
use Rattle.ct_base.specs.Access.{signal_of}
use Rattle.ct_base.specs.Validity.{IsSignal, IsValid}
use Rattle.ct_base.specs.declared.net.Net.{Net}
use Rattle.ct_base.specs.declared.plan.Letter.{Letter}
use Rattle.ct_base.specs.declared.plan.Plan.{Plan}
use Rattle.sparse_program.specs.Box.{Ranges}
use Rattle.traffic_model.specs.Runs.{IsAdmissible, IsAdmissiblePlan, word_of}
use Rattle.program_model.specs.Numbers.{plan_count}
use Rattle.certificate_model.specs.Leaves.{FixesPlan, bits_of}
use Rattle.certificate_model.proofs.PlanLaws.{one_fixed_delay}
use Rattle.plan_rounding.specs.Named.{named_plan, named_word}
use Rattle.plan_rounding.specs.Replayed.{delay_in}
use Rattle.plan_rounding.proofs.NamedLaws.{named_word_is_admissible, named_word_is_long}

-- the item of a list of words is the word with its number
pub item_is : (items words : List (List Letter)) (s : ℕ) (item : List Letter) → s < length items → item ≡ get_or items s item → items ≡ words → item ≡ get_or words s []
item_is items words s item within is same = is ∙ get_or_default items s item [] within ∙ ap (λ (list : List (List Letter)). get_or list s []) same

-- a plan with an admissible word of the right length for each signal
pub table_is_plan : (net : Net) (words : ℕ → List Letter) → ((s : ℕ) → s < length net.signals → (length (words s) ≡ net.steps) × IsAdmissible (signal_of net.signals s) (words s)) →
    IsAdmissiblePlan net (record { words = table_of (length net.signals) words })
table_is_plan net words each =
    let count : length (table_of (length net.signals) words) ≡ length net.signals = length-table_of (length net.signals) words in
    let there : (s : ℕ) → s < length (table_of (length net.signals) words) → s < length net.signals = λ s within. omega (arith, within, count) in
    record {
      words = record {
        one_per_signal = count;
        letters = λ s within. ap length (get_or-table_of (length net.signals) words s [] (there s within)) ∙ (each s (there s within)).0;
      };
      each = λ s within. subst (IsAdmissible (signal_of net.signals s)) (sym (get_or-table_of (length net.signals) words s [] (there s within))) (each s (there s within)).1;
    }

-- a plan of the same words
pub plan_of_words : (net : Net) (words others : List (List Letter)) → words ≡ others → IsAdmissiblePlan net (record { words = words }) → IsAdmissiblePlan net (record { words = others })
plan_of_words net words others same admissible = subst (λ (list : List (List Letter)). IsAdmissiblePlan net (record { words = list })) same admissible

-- the named plans are admissible
pub named_plan_is_admissible : (net : Net) (long : Bool) → IsValid net → IsAdmissiblePlan net (named_plan net long)
named_plan_is_admissible net long valid =
    table_is_plan net (λ s. named_word (signal_of net.signals s) long net.steps)
    (λ s within.
    let signal : IsSignal (signal_of net.signals s) = valid.each_signal s _ within in
    (named_word_is_long (signal_of net.signals s) long net.steps signal, named_word_is_admissible (signal_of net.signals s) long net.steps signal))

-- a plan with another word for one signal
pub with_word_is_admissible : (net : Net) (plan : Plan) (signal : ℕ) (word : List Letter) → IsAdmissiblePlan net plan → length word ≡ net.steps → IsAdmissible (signal_of net.signals signal) word →
    IsAdmissiblePlan net (record { words = table_of (length plan.words) (λ s. if s == signal then word else word_of plan s) })
with_word_is_admissible net plan signal word admissible long may =
    subst (λ (n : ℕ). IsAdmissiblePlan net (record { words = table_of n (λ s. if s == signal then word else word_of plan s) })) (sym admissible.words.one_per_signal)
    (table_is_plan net (λ s. if s == signal then word else word_of plan s)
    (λ s within.
    let there : s < length plan.words = omega (arith, within, admissible.words.one_per_signal) in
    elim (cases_eq s signal) [
      | inl e ↦ rw (eq-eqb s signal e) (long, subst (λ (n : ℕ). IsAdmissible (signal_of net.signals n) word) (sym e) may)
      | inr ne ↦ rw (ne_eqb s signal ne) (admissible.words.letters s there, admissible.each s there)
    ]))

-- a plan that has some bits has the same values
pub same_bits : {E : Type 0} (net : Net) (bits values : List ℤ) (found : Result (Option Plan) E) → bits ≡ values → IfOk found (λ one. IfSome one (λ plan. bits ≡ bits_of net plan.words)) →
    IfOk found (λ one. IfSome one (λ plan. values ≡ bits_of net plan.words))
same_bits {E} net bits values found same has = subst (λ (list : List ℤ). IfOk found (λ one. IfSome one (λ plan. list ≡ bits_of net plan.words))) same has

-- the box that leaves each plan column one value
abbrev box_at : List ℤ → Ranges
box_at bits = record { lows = bits; highs = bits }

-- it leaves a plan with these bits
fixes_at : (net : Net) (plan : Plan) (bits : List ℤ) → IsAdmissiblePlan net plan → length bits ≡ plan_count net → bits ≡ bits_of net plan.words → FixesPlan net (box_at bits) plan
fixes_at net plan bits admissible long is =
    let all : take (plan_count net) bits ≡ bits_of net plan.words = take_all (plan_count net) bits (omega (arith, long)) ∙ is in
    record { admissible = admissible; lows = all; highs = all }

-- so two plans with the same bits have the same delay
pub same_bits_same_delay : (net : Net) (plan other : Plan) (bits : List ℤ) → IsValid net → IsAdmissiblePlan net plan → IsAdmissiblePlan net other → length bits ≡ plan_count net →
    bits ≡ bits_of net plan.words → bits ≡ bits_of net other.words → delay_in net plan ≡ delay_in net other
same_bits_same_delay net plan other bits valid admissible too long is also =
    let same : pos (delay_in net plan) ≡ pos (delay_in net other) = one_fixed_delay net (box_at bits) plan other valid (fixes_at net plan bits admissible long is) (fixes_at net other bits too long also) in
    cc
