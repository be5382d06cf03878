-- The text that is written: the blocks of the plan's own runs.
use Rattle.std.proofs.Common.{◌≡◌, ℕ, ◌+◌, ◌<◌, List, [], ◌++◌, length, map, get_or, Ok, refl, sym, ap, subst, ◌∙◌, arith}
use Rattle.std.specs.Prelude.{All, codes, flat_map}
use Rattle.std.proofs.lemmas.List.{append-nil, append_assoc, get_or-map, get_or_default, length-map}
use Rattle.listed.specs.Below.{join_below}
use Rattle.listed.proofs.JoinLaws.{join_below-suc}
use Rattle.ct_base.specs.Access.{signal_of}
use Rattle.ct_base.specs.Validity.{IsSignal}
use Rattle.ct_base.specs.declared.plan.Letter.{Letter}
use Rattle.ct_base.specs.declared.plan.Plan.{Plan}
use Rattle.ct_base.specs.declared.signal.Signal.{Signal}
use Rattle.traffic_model.specs.Runs.{IsAdmissiblePlan, Run, word_of}
use Rattle.phase_rules.specs.Expansion.{expanded, run_at, run_by}
use Rattle.phase_rules.specs.inner.Greens.{greens_of}
use Rattle.phase_rules.proofs.JudgeLaws.{run_at_place}
use Rattle.phase_rules.proofs.PhaseLaws.{every_admissible_word_has_runs, runs_are_greens}
use Rattle.named_net.specs.Naming.{IsNamed, Named, NameTable, signal_names_at}
use Rattle.named_net.specs.declared.names.SignalNames.{SignalNames}
use Rattle.plan_file.specs.PlanText.{Spells, block_text, run_text, runs_at, text_by}
use Rattle.plan_file.specs.inner.Writing.{blocks_of, runs_of, text_below}
use Rattle.plan_file.proofs.BlockLaws.{IsKnown}
use Rattle.plan_file.proofs.JudgedLaws.{own_known}
use Rattle.plan_file.proofs.RunLaws.{expanded_is_fine}

-- runs that become a word are of phases that there are
pub runs_have_phases : (named : Named) (s steps : ℕ) (signal : Signal) (runs shown : List (ℕ × ℕ)) (word : List Letter) → IsNamed named → s < length named.net.signals → signal ≡ signal_of named.net.signals s → steps ≡ named.net.steps →
    shown ≡ runs → expanded signal (map run_by runs) steps ≡ Ok word → All (λ (run : ℕ × ℕ). run.0 < length (signal_names_at named.names s).phases) shown
runs_have_phases named s steps signal runs shown word valid within own horizon same is k d inside =
    let here : expanded (signal_of named.net.signals s) (map run_by shown) named.net.steps ≡ Ok word =
    ap (λ (runs : List (ℕ × ℕ)). expanded (signal_of named.net.signals s) (map run_by runs) named.net.steps) same
    ∙ ap (expanded (signal_of named.net.signals s) (map run_by runs)) (sym horizon) ∙ ap (λ signal. expanded signal (map run_by runs) steps) (sym own) ∙ is in
    let fine = expanded_is_fine (signal_of named.net.signals s) (map run_by shown) named.net.steps word here in
    let known : IsKnown (signal_names_at named.names s) (run_at (map run_by shown) k) = own_known named s (map run_by shown) valid within fine k (let count = length-map shown run_by in omega arith) in
    let at : run_at (map run_by shown) k ≡ run_by (get_or shown k d) = run_at_place shown k inside ∙ ap run_by (get_or_default shown k (0, 0) d inside) in
    subst (λ (run : Run). run.phase < length (signal_names_at named.names s).phases) at known.phase

-- a block: its first line, and its runs
pub block_is_added : (old started new : List ℕ) (names : SignalNames) (signal : Signal) (runs shown : List (ℕ × ℕ)) (word : List Letter) (steps : ℕ) → IsSignal signal → expanded signal (map run_by runs) steps ≡ Ok word → shown ≡ runs →
    started ≡ old ++ (codes "signal " ++ names.name ++ codes "\n") → new ≡ started ++ flat_map (run_text names) (map run_by shown) → new ≡ old ++ block_text names (runs_of word)
block_is_added old started new names signal runs shown word steps valid is same first rest =
    let head = codes "signal " ++ names.name ++ codes "\n" in
    let greens : shown ≡ greens_of word = same ∙ runs_are_greens signal runs steps word valid is in
    rest ∙ ap (λ (runs : List (ℕ × ℕ)). started ++ flat_map (run_text names) (map run_by runs)) greens
    ∙ ap (λ started. started ++ flat_map (run_text names) (runs_of word)) first
    ∙ append_assoc old head (flat_map (run_text names) (runs_of word))

-- no block
pub text_below-none : (names : NameTable) (plan : Plan) → text_below names plan 0 ≡ codes "ctm-plan 1\n"
unfolding join_below
text_below-none names plan = append-nil (codes "ctm-plan 1\n")

-- one block more
pub text_below-more : (names : NameTable) (plan : Plan) (s : ℕ) (word : List Letter) (text next : List ℕ) → s < length plan.words → word ≡ get_or plan.words s [] → text ≡ text_below names plan s →
    next ≡ text ++ block_text (signal_names_at names s) (runs_of word) → next ≡ text_below names plan (s + 1)
text_below-more names plan s word text next within is so_far added =
    let block = λ (s : ℕ). block_text (signal_names_at names s) (runs_at (blocks_of plan) s) in
    let runs : runs_of word ≡ runs_at (blocks_of plan) s = ap runs_of is ∙ sym (get_or-map runs_of plan.words s [] [] within) in
    added ∙ ap (λ text. text ++ block_text (signal_names_at names s) (runs_of word)) so_far
    ∙ ap (λ runs. text_below names plan s ++ block_text (signal_names_at names s) runs) runs
    ∙ append_assoc (codes "ctm-plan 1\n") (join_below s block) (block s)
    ∙ ap (λ blocks. codes "ctm-plan 1\n" ++ blocks) (sym (join_below-suc s block))

-- all blocks and the end
pub text_spells : (named : Named) (plan : Plan) (n : ℕ) (text whole : List ℕ) → IsNamed named → IsAdmissiblePlan named.net plan → n ≡ length named.net.signals → text ≡ text_below named.names plan n → whole ≡ text ++ codes "end\n" → Spells named whole plan
unfolding text_by
text_spells named plan n text whole valid admissible count so_far ended =
    let long : n ≡ length named.names.signals = count ∙ sym valid.one_per_signal in
    record {
      blocks = blocks_of plan;
      one_per_signal = length-map plan.words runs_of ∙ admissible.words.one_per_signal;
      spelled = ended ∙ ap (λ text. text ++ codes "end\n") (so_far ∙ ap (text_below named.names plan) long);
      words = admissible.words.one_per_signal;
      each = λ s within.
          (let signal : Signal = signal_of named.net.signals s in
          let runs : runs_at (blocks_of plan) s ≡ runs_of (word_of plan s) = get_or-map runs_of plan.words s [] [] within in
          let own : IsSignal signal = valid.valid.each_signal s _ (let words = admissible.words.one_per_signal in omega arith) in
          ap (λ runs. expanded signal runs named.net.steps) runs ∙ ap (expanded signal (runs_of (word_of plan s))) (sym (admissible.words.letters s within))
          ∙ every_admissible_word_has_runs signal (word_of plan s) own (admissible.each s within));
    }

-- an admissible plan has a text
pub has_text : (named : Named) (plan : Plan) → IsNamed named → IsAdmissiblePlan named.net plan → (text : List ℕ) × Spells named text plan
has_text named plan valid admissible =
    let n : ℕ = length named.net.signals in
    let text : List ℕ = text_below named.names plan n in
    (text ++ codes "end\n", text_spells named plan n text (text ++ codes "end\n") valid admissible refl refl refl)
