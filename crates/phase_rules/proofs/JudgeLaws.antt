-- A run is judged by the runs before it alone, and a walk over runs stops at the first fault.
use Rattle.std.proofs.Common.{◌≡◌, inl, inr, ℕ, zero, suc, ◌+◌, ◌-◌, ◌<◌, ◌≤◌, List, [], ◌∷◌, ◌++◌, length, map, get_or, Ok, Err, refl, sym, ap, false, ◌∙◌, arith}
use Rattle.std.specs.Prelude.{◌^◌, ◌==◌, min, take, replicate}
use Rattle.std.specs.Int.{bit_at}
use Rattle.std.proofs.lemmas.List.{append_assoc, flat_map_more, get_or_append_left, get_or-map, get_or_at, length-append, length-map, length-replicate, length-take-le, map-append, replicate-append-replicate, take_all, take_at, take_more}
use Rattle.std.proofs.lemmas.Bool.{cases_lt}
use Rattle.std.proofs.lemmas.Nat.Bits.{bit_at_above}
use Rattle.refusals.specs.Faults.{unless}
use Rattle.refusals.proofs.FirstFaults.{BeginsWith, unless_begins, unless_fine, unless_refused}
use Rattle.ct_base.specs.Access.{phase_of}
use Rattle.listed.proofs.SumLaws.{sum_below-same, sum_below-suc}
use Rattle.ct_base.specs.declared.plan.Letter.{Letter}
use Rattle.ct_base.specs.declared.plan.Letter.TheVariants as letters
use Rattle.ct_base.specs.declared.signal.Signal.{Signal}
use Rattle.traffic_model.specs.Runs.{Run, letters_of_run, letters_of_runs}
use Rattle.phase_rules.specs.Expansion.{begins_at, expanded, faults_at, faults_of, length_of_run, may_be, run_at, run_by}
use Rattle.phase_rules.specs.inner.Judging.{faults_of_run}
use Rattle.phase_rules.proofs.FitLaws.{fit_from_none}
use Rattle.phase_rules.specs.declared.fault.RunFault.{RunFault}

-- eight bits have no bit from the eighth on
pub no_bit_past_eight : (phases phase : ℕ) → phases < 2 ^ 8 → 8 ≤ phase → (bit_at phases phase == 1) ≡ false
no_bit_past_eight phases phase small past = rw (bit_at_above phases 8 phase small past)

-- the phases that may come depend on the runs before alone
may_be_same : (signal : Signal) (xs ys : List Run) (j : ℕ) → ((k : ℕ) → k < j → run_at xs k ≡ run_at ys k) → may_be signal xs j ≡ may_be signal ys j
may_be_same signal xs ys zero same = refl
may_be_same signal xs ys (suc i) same = ap (λ (run : Run). (phase_of signal run.phase).next) (same i (omega arith))

-- and so does the step at which a run begins
begins_same : (signal : Signal) (xs ys : List Run) (j : ℕ) → ((k : ℕ) → k < j → run_at xs k ≡ run_at ys k) → begins_at signal xs j ≡ begins_at signal ys j
begins_same signal xs ys j same = sum_below-same j (λ i. length_of_run signal (run_at xs i)) (λ i. length_of_run signal (run_at ys i)) (λ k h. ap (length_of_run signal) (same k h))

-- the faults of a run, by the runs before it and itself
pub faults_same : (signal : Signal) (xs ys : List Run) (steps j : ℕ) (run : Run) → ((k : ℕ) → k < j → run_at xs k ≡ run_at ys k) → run_at xs j ≡ run →
    faults_at signal xs steps j ≡ faults_of_run signal (may_be signal ys j) (begins_at signal ys j) steps j run
faults_same signal xs ys steps j run same here =
    let may = may_be_same signal xs ys j same in
    let begin = begins_same signal xs ys j same in
    ap (λ allowed. faults_of_run signal allowed (begins_at signal xs j) steps j (run_at xs j)) may
    ∙ ap (λ begin. faults_of_run signal (may_be signal ys j) begin steps j (run_at xs j)) begin
    ∙ ap (λ (run : Run). faults_of_run signal (may_be signal ys j) (begins_at signal ys j) steps j run) here

abbrev none : Run
none = record { phase = 0; green = 0 }

-- the faults of a run at the end of those before it
pub faults_at_end : (signal : Signal) (before : List (ℕ × ℕ)) (run : ℕ × ℕ) (steps : ℕ) →
    faults_at signal (map run_by (before ++ run ∷ [])) steps (length before)
    ≡ faults_of_run signal (may_be signal (map run_by before) (length before)) (begins_at signal (map run_by before) (length before)) steps (length before) (run_by run)
faults_at_end signal before run steps =
    let joined : map run_by (before ++ run ∷ []) ≡ map run_by before ++ run_by run ∷ [] = map-append run_by before (run ∷ []) in
    let long : length (map run_by before) ≡ length before = length-map before run_by in
    faults_same signal (map run_by (before ++ run ∷ [])) (map run_by before) steps (length before) (run_by run)
    (λ k within. ap (λ runs. run_at runs k) joined ∙ get_or_append_left (map run_by before) (run_by run ∷ []) none k (omega arith))
    (ap (λ runs. run_at runs (length before)) joined ∙ get_or_at (map run_by before) (run_by run) [] none (length before) long)

-- a letter so many times behind others, as far as there is room
pub filled : {X : Type 0} (xs : List X) (x : X) (steps count shown : ℕ) → shown ≡ min count (steps - length xs) → length xs ≤ steps → xs ++ replicate shown x ≡ take steps (xs ++ replicate count x)
filled xs x steps count shown is within =
    elim (cases_lt (steps - length xs) count) [
      | inl beyond ↦
          let e : shown ≡ steps - length xs = omega arith in
          let room : length xs + shown ≡ steps = omega arith in
          let more : shown + (count - shown) ≡ count = omega arith in
          let long : length (xs ++ replicate shown x) ≡ steps = length-append xs (replicate shown x) ∙ ap (λ n. length xs + n) (length-replicate shown x) ∙ room in
          sym (ap (λ n. take steps (xs ++ replicate n x)) (sym more)
          ∙ ap (λ ys. take steps (xs ++ ys)) (sym (replicate-append-replicate shown (count - shown) x))
          ∙ ap (take steps) (sym (append_assoc xs (replicate shown x) (replicate (count - shown) x)))
          ∙ take_at (xs ++ replicate shown x) (replicate (count - shown) x) steps long)
      | inr inside ↦
          let e : shown ≡ count = omega arith in
          let long : length (xs ++ replicate count x) ≤ steps = (let all = length-append xs (replicate count x) in let one = length-replicate count x in omega (arith, all, one)) in
          ap (λ n. xs ++ replicate n x) e ∙ sym (take_all steps (xs ++ replicate count x) long)
    ]

-- what was cut once is cut again where more is added
pub take_again : {X : Type 0} (n : ℕ) (xs ys : List X) → take n (take n xs ++ ys) ≡ take n (xs ++ ys)
take_again zero xs ys = refl
take_again (suc n) [] ys = refl
take_again (suc n) (x ∷ xs) ys = ap (λ zs. x ∷ zs) (take_again n xs ys)

-- the letters of one run more, cut by the horizon
pub word_more : (signal : Signal) (pairs : List (ℕ × ℕ)) (i steps : ℕ) (word green clear : List Letter) → i < length pairs →
    word ≡ take steps (letters_of_runs signal (map run_by (take i pairs))) →
    green ≡ take steps (word ++ replicate (get_or pairs i (0, 0)).1 (letters.Green (get_or pairs i (0, 0)).0)) →
    clear ≡ take steps (green ++ replicate (phase_of signal (get_or pairs i (0, 0)).0).clear (letters.Clear (get_or pairs i (0, 0)).0)) →
    clear ≡ take steps (letters_of_runs signal (map run_by (take (i + 1) pairs)))
word_more signal pairs i steps word green clear within so_far is_green is_clear =
    let pair = get_or pairs i (0, 0) in
    let g = replicate pair.1 (letters.Green pair.0) in
    let c = replicate (phase_of signal pair.0).clear (letters.Clear pair.0) in
    let before = letters_of_runs signal (map run_by (take i pairs)) in
    let joined : letters_of_runs signal (map run_by (take (i + 1) pairs)) ≡ before ++ (g ++ c) =
    ap (λ pairs. letters_of_runs signal (map run_by pairs)) (take_more pairs i (0, 0) within)
    ∙ ap (letters_of_runs signal) (map-append run_by (take i pairs) (pair ∷ []))
    ∙ sym (flat_map_more (letters_of_run signal) [] (map run_by (take i pairs)) (run_by pair)) in
    is_clear ∙ ap (λ word. take steps (word ++ c)) is_green
    ∙ take_again steps (word ++ g) c
    ∙ ap (λ word. take steps ((word ++ g) ++ c)) so_far
    ∙ ap (take steps) (append_assoc (take steps before) g c)
    ∙ take_again steps before (g ++ c)
    ∙ ap (take steps) (sym joined)

-- a run of the first part of a list
at_front : (pairs : List (ℕ × ℕ)) (j k : ℕ) → k < j → run_at (map run_by (take j pairs)) k ≡ run_at (map run_by pairs) k
at_front [] zero k within = refl
at_front [] (suc j) k within = refl
at_front (pair ∷ pairs) zero k within = absurd (omega arith)
at_front (pair ∷ pairs) (suc j) zero within = refl
at_front (pair ∷ pairs) (suc j) (suc k) within = at_front pairs j k (omega arith)

-- run j of a list of pairs
pub run_at_place : (pairs : List (ℕ × ℕ)) (j : ℕ) → j < length pairs → run_at (map run_by pairs) j ≡ run_by (get_or pairs j (0, 0))
run_at_place pairs j within = get_or-map run_by pairs j (0, 0) none within

-- the letters before the next run are those before run j, and its own
pub counted_more : (signal : Signal) (pairs : List (ℕ × ℕ)) (j letters : ℕ) → j < length pairs → letters ≡ begins_at signal (map run_by pairs) j →
    letters + length_of_run signal (run_by (get_or pairs j (0, 0))) ≡ begins_at signal (map run_by pairs) (j + 1)
counted_more signal pairs j letters within so_far =
    ap (λ letters. letters + length_of_run signal (run_by (get_or pairs j (0, 0)))) so_far
    ∙ ap (λ (run : Run). begins_at signal (map run_by pairs) j + length_of_run signal run) (sym (run_at_place pairs j within))
    ∙ sym (sum_below-suc j (λ i. length_of_run signal (run_at (map run_by pairs) i)))

-- the letters before run j of a list are those of its first j runs
pub begins_at_front : (signal : Signal) (pairs : List (ℕ × ℕ)) (j : ℕ) → j ≤ length pairs →
    begins_at signal (map run_by (take j pairs)) (length (take j pairs)) ≡ begins_at signal (map run_by pairs) j
begins_at_front signal pairs j within =
    ap (begins_at signal (map run_by (take j pairs))) (length-take-le j pairs within) ∙ begins_same signal (map run_by (take j pairs)) (map run_by pairs) j (λ k h. at_front pairs j k h)

-- the faults of run j of a list, judged after its first j runs
pub faults_at_front : (signal : Signal) (pairs : List (ℕ × ℕ)) (j steps : ℕ) → j < length pairs →
    faults_at signal (map run_by (take j pairs ++ get_or pairs j (0, 0) ∷ [])) steps (length (take j pairs)) ≡ faults_at signal (map run_by pairs) steps j
faults_at_front signal pairs j steps within =
    let run = get_or pairs j (0, 0) in
    let inner : j ≤ length pairs = omega arith in
    let long : length (take j pairs) ≡ j = length-take-le j pairs inner in
    let reads : run_at (map run_by pairs) j ≡ run_by run = run_at_place pairs j within in
    faults_at_end signal (take j pairs) run steps
    ∙ ap (λ begin. faults_of_run signal (may_be signal (map run_by (take j pairs)) (length (take j pairs))) begin steps (length (take j pairs)) (run_by run)) (begins_at_front signal pairs j inner)
    ∙ ap (λ number. faults_of_run signal (may_be signal (map run_by (take j pairs)) number) (begins_at signal (map run_by pairs) j) steps number (run_by run)) long
    ∙ ap (λ allowed. faults_of_run signal allowed (begins_at signal (map run_by pairs) j) steps j (run_by run)) (may_be_same signal (map run_by (take j pairs)) (map run_by pairs) j (λ k h. at_front pairs j k h))
    ∙ sym (faults_same signal (map run_by pairs) (map run_by pairs) steps j (run_by run) (λ k h. refl) reads)

-- the first fault of runs is that of their expansion
pub expanded_fault : (signal : Signal) (runs : List Run) (steps : ℕ) (fault : RunFault) → Err fault ≡ unless {X = Unit {0}} (faults_of signal runs steps) tt → expanded signal runs steps ≡ Err fault
unfolding expanded
expanded_fault signal runs steps fault refused =
    let begins : BeginsWith fault (faults_of signal runs steps) = unless_refused (faults_of signal runs steps) tt fault refused in
    sym (unless_begins (faults_of signal runs steps) (take steps (letters_of_runs signal runs)) fault begins)

-- runs without a fault expand to their letters
pub expanded_fine : (signal : Signal) (runs : List Run) (steps : ℕ) (word : List Letter) → Ok tt ≡ unless {X = Unit {0}} (faults_of signal runs steps) tt → word ≡ take steps (letters_of_runs signal runs) → expanded signal runs steps ≡ Ok word
unfolding expanded
expanded_fine signal runs steps word fine is = rw (unless_fine (faults_of signal runs steps) tt tt fine, is)

-- a run without a fault has green letters, and they end inside the horizon
pub run_counts : (signal : Signal) (pairs : List (ℕ × ℕ)) (steps j letters : ℕ) → j < length pairs → faults_at signal (map run_by pairs) steps j ≡ [] → letters ≡ begins_at signal (map run_by pairs) j →
    (0 < (get_or pairs j (0, 0)).1) × (letters + (get_or pairs j (0, 0)).1 ≤ steps)
run_counts signal pairs steps j letters within fine counted =
    let fit = fit_from_none signal (map run_by pairs) steps j fine in
    let same : (run_at (map run_by pairs) j).green ≡ (get_or pairs j (0, 0)).1 = ap (λ (run : Run). run.green) (run_at_place pairs j within) in
    let some : 0 < (run_at (map run_by pairs) j).green = fit.some in
    let inside : (run_at (map run_by pairs) j).green ≤ steps - begins_at signal (map run_by pairs) j = fit.within in
    let early : 0 < steps - begins_at signal (map run_by pairs) j = fit.begins in
    (omega (arith, same, some), omega (arith, same, inside, early, counted))
