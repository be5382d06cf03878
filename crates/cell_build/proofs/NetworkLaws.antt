-- A network without a fault is valid.
use Rattle.std.proofs.Common.{◌≡◌, ◌≢◌, ◌⊎◌, inl, inr, ℕ, ◌+◌, ◌<◌, true, List, [], ◌∷◌, length, map, get_or, Option, Some, None, All, AllPairs, Contains, refl, sym, ap, ◌∙◌, arith}
use Rattle.std.proofs.lemmas.Bool.{cases_lt}
use Rattle.std.proofs.lemmas.List.{get_or_default, length-map}
use Rattle.std.proofs.lemmas.List.Elements.{All-map}
use Rattle.ct_base.specs.Access.{cell_of, targets}
use Rattle.ct_base.specs.Validity.{AreApart, IsBetween, IsCell, IsSignal, IsSplit, IsTarget, IsValid}
use Rattle.ct_base.specs.declared.cell.Gate.{Gate}
use Rattle.ct_base.specs.declared.cell.Out.{Out}
use Rattle.ct_base.specs.declared.cell.Out.TheVariants.{To, Turns}
use Rattle.ct_base.specs.declared.net.Net.{Net}
use Rattle.network_file.specs.Range.{IsInRange, IsLinkInRange}
use Rattle.network_file.specs.declared.raw.RawNet.{RawNet}
use Rattle.cell_build.specs.Built.{named_of, signal_built}
use Rattle.cell_build.specs.Link.{cell_count, cells_below, first_road, gate_of, out_by, queue_count}
use Rattle.cell_build.specs.Names.{link_names, raw_link, no_signal, number_of}
use Rattle.cell_build.specs.Refusals.{faults_of, leads_to}
use Rattle.cell_build.proofs.FaultLaws.{turn_of, HasNoFault, cells_are_few, has_no_fault}
use Rattle.cell_build.proofs.LeadLaws.{LeadsInto, branch_to, branches_differ, named_within, target_at, targets_are_roads, fed_has_no_queue, feeders_apart}
use Rattle.cell_build.proofs.LinkCells.{IsLinkCell, queue_count-le}
use Rattle.cell_build.proofs.PlaceLaws.{IsAt, cell_is_link_cell, cells_of, length-cells_of, one_place, place_of, place_within, road_place}
use Rattle.cell_build.proofs.SignalLaws.{gate_of_link_is_gate, signal_is_signal, signals_of}

-- a network that is read and has no fault
pub record IsSound (raw : RawNet) : Type 0 where
  pub in_range : IsInRange raw
  pub fine : HasNoFault raw

-- where cell j leads to
abbrev out_at : RawNet → ℕ → Out
out_at raw j = (cell_of (cells_of raw) j).out

-- link k leads where its file says, behind its gate
abbrev last_of : RawNet → ℕ → Out
last_of raw k = out_by raw.links (raw_link raw.links k).to (raw_link raw.links k).turns

abbrev gate_at : RawNet → ℕ → Option Gate
gate_at raw k = gate_of raw.signals (raw_link raw.links k)

-- cell j, which is cell i of link k
cell_is : (raw : RawNet) (j k i : ℕ) → IsSound raw → IsAt raw.links j k i → IsLinkCell raw.steps (cells_below raw.links k) (last_of raw k) (gate_at raw k) (raw_link raw.links k) i (cell_of (cells_of raw) j)
cell_is raw j k i sound here = cell_is_link_cell raw j k i sound.in_range sound.fine here

-- cell t is the next one of its link
record IsNext (raw : RawNet) (k i t : ℕ) : Type 0 where
  inner : i + 1 < cell_count (raw_link raw.links k)
  place : IsAt raw.links t k (i + 1)

-- cell t is the first road cell of link m, into which the last cell of link k leads
record IsEntry (raw : RawNet) (k i m t : ℕ) : Type 0 where
  last : i + 1 ≡ cell_count (raw_link raw.links k)
  leads : LeadsInto raw.links k m
  place : IsAt raw.links t m (queue_count (raw_link raw.links m).pieces)

-- cell i of link k leads to cell t
abbrev IsStep : RawNet → ℕ → ℕ → ℕ → Type 0
IsStep raw k i t = IsNext raw k i t ⊎ ((m : ℕ) × IsEntry raw k i m t)

-- the one target of a cell that leads to cell b
one_target : (P : ℕ → Type 0) (b : ℕ) → P b → All P (targets (To b))
one_target P b holds = λ k d within. let first : k ≡ 0 = omega arith in rw first holds

-- each target of cell j
targets_are_steps : (raw : RawNet) (j k i : ℕ) → IsSound raw → IsAt raw.links j k i → All (IsStep raw k i) (targets (out_at raw j))
targets_are_steps raw j k i sound here =
    let is = cell_is raw j k i sound here in
    let first = cells_below raw.links k in
    elim (cases_lt (i + 1) (cell_count (raw_link raw.links k))) [
      | inl inner ↦
          let next : IsNext raw k i (first + (i + 1)) = record { inner = inner; place = record { link = here.link; cell = inner; is = refl } } in
          rw (is.inner inner) (one_target (IsStep raw k i) (first + (i + 1)) (inl next))
      | inr at_end ↦
          let last : i + 1 ≡ cell_count (raw_link raw.links k) = omega (arith, here.cell) in
          rw (is.end last) (λ n d within.
          let road = targets_are_roads raw k sound.fine here.link n d within in
          let entry : IsEntry raw k i road.0 (get_or (targets (last_of raw k)) n d) =
          record { last = last; leads = road.1; place = rw road.2 (road_place raw road.0 sound.in_range road.1.within) } in
          inr (road.0, entry))
    ]

-- a cell within the network is a road cell, and another
step_is_target : (raw : RawNet) (j k i t : ℕ) → IsSound raw → IsAt raw.links j k i → IsStep raw k i t → IsTarget (cells_of raw) j t
step_is_target raw j k i t sound here (inl next) = record {
  within = omega (arith, length-cells_of raw, place_within raw.links t k (i + 1) next.place);
  road = (cell_is raw t k (i + 1) sound next.place).road (omega (arith, queue_count-le (raw_link raw.links k).pieces));
  other = λ same. omega (arith, next.place.is, here.is);
}
step_is_target raw j k i t sound here (inr (m, entry)) = record {
  within = omega (arith, length-cells_of raw, place_within raw.links t m (queue_count (raw_link raw.links m).pieces) entry.place);
  road = (cell_is raw t m (queue_count (raw_link raw.links m).pieces) sound entry.place).road (omega arith);
  other = λ same. entry.leads.other (one_place raw.links t m (queue_count (raw_link raw.links m).pieces) k i entry.place (rw (← same) at here)).0;
}

-- the first road cells of two links differ
roads_differ : (raw : RawNet) (m n : ℕ) → IsSound raw → m < length raw.links → n < length raw.links → m ≢ n → first_road raw.links m ≢ first_road raw.links n
roads_differ raw m n sound first second differ same =
    differ (one_place raw.links (first_road raw.links m) m (queue_count (raw_link raw.links m).pieces) n (queue_count (raw_link raw.links n).pieces)
    (road_place raw m sound.in_range first) (rw (← same) at (road_place raw n sound.in_range second))).0

-- the branches of link k lead into different cells
branches_are_apart : (raw : RawNet) (k : ℕ) → IsSound raw → k < length raw.links → AllPairs (λ i j. i ≢ j) (targets (Turns (map (branch_to raw.links) (raw_link raw.links k).turns)))
branches_are_apart raw k sound within = λ i j d before there same.
    let turns = (raw_link raw.links k).turns in
    let second : j < length turns = omega (arith, there, length-map (map (branch_to raw.links) turns) (λ (branch : ℕ × ℕ). branch.0), length-map turns (branch_to raw.links)) in
    let first : i < length turns = omega arith in
    roads_differ raw (number_of (link_names raw.links) (turn_of (raw_link raw.links k) i)) (number_of (link_names raw.links) (turn_of (raw_link raw.links k) j)) sound
    (named_within raw k i sound.fine within first) (named_within raw k j sound.fine within second)
    (branches_differ raw k i j sound.fine within before second)
    (sym (target_at raw.links turns i d first) ∙ same ∙ target_at raw.links turns j d second)

-- where link k leads is a split within the limits
last_is_split : (raw : RawNet) (k : ℕ) → IsSound raw → k < length raw.links → IsSplit (last_of raw k)
last_is_split raw k sound within = by_out (raw_link raw.links k).to (raw_link raw.links k).turns refl
  where
    by_out : (to : Option (List ℕ)) (turns : List (List ℕ × ℕ)) → (raw_link raw.links k).turns ≡ turns → IsSplit (out_by raw.links to turns)
    by_out (Some name) turns is = tt
    by_out None [] is = tt
    by_out None (turn ∷ turns) is =
        let limits : IsLinkInRange (raw_link raw.links k) = sound.in_range.each_link k _ within in
        let some : (raw_link raw.links k).turns ≢ [] = λ none. absurd (cc) in
        let few = rw is at (limits.turns some) in
        let parcels = rw is at limits.parcels in
        let apart = rw is at (branches_are_apart raw k sound within) in (
          rw length-map few,
          apart,
          All-map (λ (branch : ℕ × ℕ). IsBetween 1 100 branch.1) (branch_to raw.links) (turn ∷ turns) parcels,
        )

-- the network
abbrev pub net_of : RawNet → Net
net_of raw = record { steps = raw.steps; cells = cells_of raw; signals = signals_of raw }

-- cell j
cell_is_cell : (raw : RawNet) (j k i : ℕ) → IsSound raw → IsAt raw.links j k i → IsCell (net_of raw) j (cell_of (cells_of raw) j)
cell_is_cell raw j k i sound here =
    let cell = cell_of (cells_of raw) j in
    let is = cell_is raw j k i sound here in
    record {
      cap = is.cap;
      kind = is.kind;
      gate = elim (cases_lt (i + 1) (cell_count (raw_link raw.links k))) [
        | inl inner ↦ rw (is.inner_gate inner) tt
        | inr at_end ↦ rw (is.end_gate (omega (arith, here.cell))) (gate_of_link_is_gate raw k sound.in_range sound.fine here.link)
      ];
      targets = λ n d within. step_is_target raw j k i (get_or (targets cell.out) n d) sound here (targets_are_steps raw j k i sound here n d within);
      split = elim (cases_lt (i + 1) (cell_count (raw_link raw.links k))) [
        | inl inner ↦ rw (is.inner inner) tt
        | inr at_end ↦ rw (is.end (omega (arith, here.cell))) (last_is_split raw k sound here.link)
      ];
    }

-- a cell that another leads to by a step of its own link, and one by which a link leads into it, are not one
next_is_no_entry : (raw : RawNet) (k i l m n t : ℕ) → IsSound raw → l < length raw.links → IsNext raw k i t → IsEntry raw l m n t → ⊥
next_is_no_entry raw k i l m n t sound within next entry =
    let queues = queue_count (raw_link raw.links n).pieces in
    let none : queues ≡ 0 = fed_has_no_queue raw n l sound.fine entry.leads.within within entry.leads.leads in
    let same : i + 1 ≡ queues = (one_place raw.links t k (i + 1) n queues next.place entry.place).1 in
    omega arith

-- two cells from which steps lead to one cell
steps_are_apart : (raw : RawNet) (a p i b q k t : ℕ) → IsSound raw → i ≢ k → IsAt raw.links i a p → IsAt raw.links k b q → IsStep raw a p t → IsStep raw b q t →
    AreApart (cell_of (cells_of raw) i).gate (cell_of (cells_of raw) k).gate
steps_are_apart raw a p i b q k t sound differ first second (inl from_first) (inl from_second) =
    let same = one_place raw.links t a (p + 1) b (q + 1) from_first.place from_second.place in
    let below : cells_below raw.links a ≡ cells_below raw.links b = ap (cells_below raw.links) same.0 in
    absurd (differ (omega (arith, first.is, second.is, same.1)))
steps_are_apart raw a p i b q k t sound differ first second (inl from_first) (inr (n, from_second)) =
    absurd (next_is_no_entry raw a p b q n t sound second.link from_first from_second)
steps_are_apart raw a p i b q k t sound differ first second (inr (m, from_first)) (inl from_second) =
    absurd (next_is_no_entry raw b q a p m t sound first.link from_second from_first)
steps_are_apart raw a p i b q k t sound differ first second (inr (m, from_first)) (inr (n, from_second)) =
    let one : m ≡ n = (one_place raw.links t m (queue_count (raw_link raw.links m).pieces) n (queue_count (raw_link raw.links n).pieces) from_first.place from_second.place).0 in
    let apart : a ≢ b = λ same.
    let below : cells_below raw.links a ≡ cells_below raw.links b = ap (cells_below raw.links) same in
    let count : cell_count (raw_link raw.links a) ≡ cell_count (raw_link raw.links b) = ap (λ k. cell_count (raw_link raw.links k)) same in
    differ (omega (arith, first.is, second.is, from_first.last, from_second.last)) in
    let leads : leads_to (raw_link raw.links b) (raw_link raw.links m).name ≡ true = rw (← one) at from_second.leads.leads in
    rw ((cell_is raw i a p sound first).end_gate from_first.last, (cell_is raw k b q sound second).end_gate from_second.last)
    (feeders_apart raw m a b sound.fine from_first.leads.within first.link second.link apart from_first.leads.leads leads)

-- a target that a cell contains is a step
step_of : (raw : RawNet) (j k i t : ℕ) → IsSound raw → IsAt raw.links j k i → Contains (targets (out_at raw j)) t → IsStep raw k i t
step_of raw j k i t sound here some = rw some.2 at (targets_are_steps raw j k i sound here some.0 t some.1)

-- the network of a file without a fault is valid
sound_is_valid : (raw : RawNet) → IsSound raw → IsValid (net_of raw)
sound_is_valid raw sound =
    let count = length-cells_of raw in
    record {
      steps = sound.in_range.steps;
      cells = (
        omega (arith, count, place_within raw.links (first_road raw.links 0) 0 (queue_count (raw_link raw.links 0).pieces) (road_place raw 0 sound.in_range (omega (arith, sound.in_range.links)))),
        omega (arith, count, cells_are_few raw sound.fine),
      );
      signals = rw length-map sound.in_range.signals;
      each_signal = All-map IsSignal signal_built raw.signals (λ s d there. rw (get_or_default raw.signals s d no_signal there) (signal_is_signal raw s sound.in_range sound.fine there));
      each_cell = λ j within.
          let place = place_of raw.links j (omega arith) in
          cell_is_cell raw j place.0 place.1 sound place.2;
      merges = λ i i_within k k_within differ t from_i from_k.
          let first = place_of raw.links i (omega arith) in
          let second = place_of raw.links k (omega arith) in
          steps_are_apart raw first.0 first.1 i second.0 second.1 k t sound differ first.2 second.2
          (step_of raw i first.0 first.1 t sound first.2 from_i) (step_of raw k second.0 second.1 t sound second.2 from_k);
    }

pub named_is_valid : (raw : RawNet) → IsInRange raw → faults_of raw ≡ [] → IsValid (named_of raw).net
unfolding named_of
named_is_valid raw in_range none = sound_is_valid raw (record { in_range = in_range; fine = has_no_fault raw none })
