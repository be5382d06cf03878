-- Where the last cells of links lead: each target is the first road cell of another link, links that lead into one are apart,
-- and a link with demand is led into by none.
use Rattle.std.proofs.Common.{◌≡◌, ◌≢◌, ◌⊎◌, inl, inr, ℕ, zero, suc, ◌<◌, true, false, List, [], ◌∷◌, length, map, take, get_or, Option, Some, None, All, refl, sym, ap, ◌∙◌, arith, Bool, not, ◌==◌, if◌then◌else◌, filter, bit_and}
use Rattle.std.specs.List.{list_any, list_all}
use Rattle.std.specs.Str.{bytes_eq}
use Rattle.std.proofs.lemmas.Bool.{false≢true, or_right, and_parts, and_cases, cases_order, eqb-true, not-false}
use Rattle.std.proofs.lemmas.List.{get_or-map, get_or-take, length-map, length-take-le}
use Rattle.std.proofs.lemmas.List.Folds.{list_any_at}
use Rattle.std.proofs.lemmas.Slice.Eq.{bytes_eq-Decides}
use Rattle.ct_base.specs.declared.cell.Out.TheVariants.{Turns}
use Rattle.ct_base.specs.Access.{targets}
use Rattle.network_file.specs.declared.raw.RawNet.{RawNet}
use Rattle.network_file.specs.declared.raw.RawLink.{RawLink}
use Rattle.cell_build.specs.Link.{first_road, out_by, road_named, gate_of, queue_count}
use Rattle.cell_build.specs.Names.{is_unknown, link_names, raw_link, name_in, no_link, number_of}
use Rattle.cell_build.specs.Refusals.{leads_to, are_apart, is_apart, is_empty}
use Rattle.cell_build.proofs.FaultLaws.{turn_of, HasNoFault, branch_is_new, leads_elsewhere, to_is_known, turn_is_known, feeders_are_apart, queue_is_not_fed}
use Rattle.cell_build.proofs.NameLaws.{get_or-number_of, number_within, list_any_led_to}
use Rattle.std.proofs.lemmas.Nat.{and_comm}
use Rattle.ct_base.specs.Validity.{AreApart}
use Rattle.ct_base.specs.declared.cell.Gate.{Gate}
use Rattle.demand.specs.declared.piece.Piece.{Piece}

-- the link names another by `to` or by a branch
abbrev pub Names : RawLink → List ℕ → Type 0
Names link name = (link.to ≡ Some name) ⊎ ((j : ℕ) × (j < length link.turns) × (turn_of link j ≡ name))

-- what it names it leads to
leads_to_named : (link : RawLink) (name : List ℕ) → Names link name → leads_to link name ≡ true
leads_to_named link name (inl to) =
    rw to (list_any_at (bytes_eq name) (name ∷ map (λ (turn : List ℕ × ℕ). turn.0) link.turns) 0 [] (omega arith) ((bytes_eq-Decides name name).1 refl))
leads_to_named link name (inr (j, within, is)) =
    let among = list_any_at (λ (turn : List ℕ × ℕ). bytes_eq name turn.0) link.turns j ([], 0) within ((bytes_eq-Decides name (turn_of link j)).1 (sym is)) in
    list_any_led_to name (name_in link.to) link.turns ∙ or_right (list_any (bytes_eq name) (name_in link.to)) (list_any (λ (turn : List ℕ × ℕ). bytes_eq name turn.0) link.turns) among

-- what it names is there
named_is_known : (raw : RawNet) (k : ℕ) (name : List ℕ) → HasNoFault raw → k < length raw.links → Names (raw_link raw.links k) name → is_unknown (link_names raw.links) name ≡ false
named_is_known raw k name fine within (inl to) = to_is_known raw k name fine within to
named_is_known raw k name fine within (inr (j, there, is)) = ap (is_unknown (link_names raw.links)) (sym is) ∙ turn_is_known raw k j fine within there

-- link k leads into link m, which is another
pub record LeadsInto (links : List RawLink) (k m : ℕ) : Type 0 where
  pub within : m < length links
  pub leads : leads_to (raw_link links k) (raw_link links m).name ≡ true
  pub other : m ≢ k

-- what link k names is a link that it leads into
named_is_led_into : (raw : RawNet) (k : ℕ) (name : List ℕ) → HasNoFault raw → k < length raw.links → Names (raw_link raw.links k) name → LeadsInto raw.links k (number_of (link_names raw.links) name)
named_is_led_into raw k name fine within names =
    let m = number_of (link_names raw.links) name in
    let known : is_unknown (link_names raw.links) name ≡ false = named_is_known raw k name fine within names in
    let there : m < length raw.links = omega (arith, number_within (link_names raw.links) name known, length-map raw.links (λ (link : RawLink). link.name)) in
    let own : (raw_link raw.links m).name ≡ name = sym (get_or-map (λ (link : RawLink). link.name) raw.links m no_link [] there) ∙ get_or-number_of (link_names raw.links) name [] known in
    let leads : leads_to (raw_link raw.links k) (raw_link raw.links m).name ≡ true = rw own (leads_to_named (raw_link raw.links k) name names) in
    record {
      within = there;
      leads = leads;
      other = λ same. false≢true (sym (leads_elsewhere raw k fine within) ∙ (rw same at leads));
    }

-- a branch of a diverge as the file writes it
abbrev pub branch_to : List RawLink → (List ℕ × ℕ) → ℕ × ℕ
branch_to links branch = (road_named links branch.0, branch.1)

-- a cell of a branch
pub target_at : (links : List RawLink) (turns : List (List ℕ × ℕ)) (i d : ℕ) → i < length turns → get_or (targets (Turns (map (branch_to links) turns))) i d ≡ road_named links (get_or turns i ([], 0)).0
target_at links turns i d within =
    let built : i < length (map (branch_to links) turns) = rw length-map within in
    get_or-map (λ (branch : ℕ × ℕ). branch.0) (map (branch_to links) turns) i (d, 0) d built
    ∙ ap (λ (branch : ℕ × ℕ). branch.0) (get_or-map (branch_to links) turns i ([], 0) (d, 0) within)

-- target i of a link is the road of a link that it names
target_is_road : (links : List RawLink) (link : RawLink) (to : Option (List ℕ)) (turns : List (List ℕ × ℕ)) (i d : ℕ) → link.to ≡ to → link.turns ≡ turns → i < length (targets (out_by links to turns)) →
    (name : List ℕ) × Names link name × (get_or (targets (out_by links to turns)) i d ≡ road_named links name)
target_is_road links link (Some name) turns zero d to_is turns_is within = (name, inl to_is, refl)
target_is_road links link (Some name) turns (suc i) d to_is turns_is within = absurd (omega arith)
target_is_road links link None [] i d to_is turns_is within = absurd (omega arith)
target_is_road links link None (turn ∷ turns) i d to_is turns_is within =
    let branches = turn ∷ turns in
    let there : i < length branches = omega (arith, within, length-map (map (branch_to links) branches) (λ (branch : ℕ × ℕ). branch.0), length-map branches (branch_to links)) in
    ((get_or branches i ([], 0)).0, inr (i, rw turns_is there, ap (λ (turns : List (List ℕ × ℕ)). (get_or turns i ([], 0)).0) turns_is), target_at links branches i d there)

-- each target of the last cell of link k is the first road cell of a link that it leads into
abbrev pub IsRoadInto : List RawLink → ℕ → ℕ → Type 0
IsRoadInto links k t = (m : ℕ) × LeadsInto links k m × (t ≡ first_road links m)

pub targets_are_roads : (raw : RawNet) (k : ℕ) → HasNoFault raw → k < length raw.links →
    All (IsRoadInto raw.links k) (targets (out_by raw.links (raw_link raw.links k).to (raw_link raw.links k).turns))
targets_are_roads raw k fine within = λ i d there.
    let link = raw_link raw.links k in
    let road = target_is_road raw.links link link.to link.turns i d refl refl there in
    (number_of (link_names raw.links) road.0, named_is_led_into raw k road.0 fine within road.1, road.2)

-- the links that two branches name differ
pub branches_differ : (raw : RawNet) (k i j : ℕ) → HasNoFault raw → k < length raw.links → i < j → j < length (raw_link raw.links k).turns →
    number_of (link_names raw.links) (turn_of (raw_link raw.links k) i) ≢ number_of (link_names raw.links) (turn_of (raw_link raw.links k) j)
branches_differ raw k i j fine within before there same =
    let link = raw_link raw.links k in
    let names = link_names raw.links in
    let early : i < length (take j link.turns) = omega (arith, length-take-le j link.turns (omega arith)) in
    let is : (get_or (take j link.turns) i ([], 0)).0 ≡ turn_of link i = ap (λ (turn : List ℕ × ℕ). turn.0) (get_or-take j link.turns i ([], 0) before) in
    let first_known : is_unknown names (turn_of link i) ≡ false = turn_is_known raw k i fine within (omega arith) in
    let second_known : is_unknown names (turn_of link j) ≡ false = turn_is_known raw k j fine within there in
    let same_name : turn_of link i ≡ turn_of link j =
    sym (get_or-number_of names (turn_of link i) [] first_known) ∙ ap (λ m. get_or names m []) same ∙ get_or-number_of names (turn_of link j) [] second_known in
    false≢true (sym (branch_is_new raw k j fine within there) ∙ list_any_at (λ (turn : List ℕ × ℕ). bytes_eq (turn_of link j) turn.0) (take j link.turns) i ([], 0) early ((bytes_eq-Decides (turn_of link j) _).1 (sym (is ∙ same_name))))

-- the link that a branch names is there
pub named_within : (raw : RawNet) (k j : ℕ) → HasNoFault raw → k < length raw.links → j < length (raw_link raw.links k).turns → number_of (link_names raw.links) (turn_of (raw_link raw.links k) j) < length raw.links
named_within raw k j fine within there =
    omega (arith, number_within (link_names raw.links) (turn_of (raw_link raw.links k) j) (turn_is_known raw k j fine within there), length-map raw.links (λ (link : RawLink). link.name))

-- what holds of all gates, and of each two, holds where the first is left out
rest_of_all : {X : Type 0} (apart : Option Gate → Bool) (gate : X → Option Gate) (b : Bool) (x : X) (xs : List X) → list_all apart (map gate (if b then x ∷ xs else xs)) ≡ true → list_all apart (map gate xs) ≡ true
rest_of_all apart gate true x xs all = (and_parts (apart (gate x)) (list_all apart (map gate xs)) all).1
rest_of_all apart gate false x xs all = all

rest_are_apart : {X : Type 0} (gate : X → Option Gate) (b : Bool) (x : X) (xs : List X) → are_apart (map gate (if b then x ∷ xs else xs)) ≡ true → are_apart (map gate xs) ≡ true
rest_are_apart gate true x xs all = (and_parts (list_all (is_apart (gate x)) (map gate xs)) (are_apart (map gate xs)) all).1
rest_are_apart gate false x xs all = all

-- what holds of the gates of all that pass a test holds of one that passes it
of_one : {X : Type 0} (apart : Option Gate → Bool) (gate : X → Option Gate) (test : X → Bool) (xs : List X) (k : ℕ) (d : X) → list_all apart (map gate (filter test xs)) ≡ true → k < length xs → test (get_or xs k d) ≡ true →
    apart (gate (get_or xs k d)) ≡ true
of_one apart gate test [] k d all within passes = absurd (omega arith)
of_one apart gate test (x ∷ xs) zero d all within passes =
    (and_parts (apart (gate x)) (list_all apart (map gate (filter test xs))) (rw passes at all)).0
of_one apart gate test (x ∷ xs) (suc k) d all within passes =
    of_one apart gate test xs k d (rest_of_all apart gate (test x) x (filter test xs) all) (omega arith) passes

-- of the gates of those that pass a test two are apart
two_apart : {X : Type 0} (gate : X → Option Gate) (test : X → Bool) (xs : List X) (i k : ℕ) (d : X) → are_apart (map gate (filter test xs)) ≡ true → i < k → k < length xs → test (get_or xs i d) ≡ true → test (get_or xs k d) ≡ true →
    is_apart (gate (get_or xs i d)) (gate (get_or xs k d)) ≡ true
two_apart gate test [] i k d all before within first second = absurd (omega arith)
two_apart gate test (x ∷ xs) i zero d all before within first second = absurd (omega arith)
two_apart gate test (x ∷ xs) zero (suc k) d all before within first second =
    let here = and_parts (list_all (is_apart (gate x)) (map gate (filter test xs))) (are_apart (map gate (filter test xs))) (rw first at all) in
    of_one (is_apart (gate x)) gate test xs k d here.0 (omega arith) second
two_apart gate test (x ∷ xs) (suc i) (suc k) d all before within first second =
    two_apart gate test xs i k d (rest_are_apart gate (test x) x (filter test xs) all) (omega arith) (omega arith) first second

-- what the test says of two gates
apart_from : (first second : Option Gate) → is_apart first second ≡ true → AreApart first second
apart_from (Some g) (Some h) apart =
    let parts = and_parts (g.signal == h.signal) (bit_and g.greens h.greens == 0) apart in
    (eqb-true g.signal h.signal parts.0, eqb-true (bit_and g.greens h.greens) 0 parts.1)
apart_from (Some g) None apart = absurd (false≢true apart)
apart_from None second apart = absurd (false≢true apart)

apart_both_ways : (first second : Option Gate) → AreApart first second → AreApart second first
apart_both_ways (Some g) (Some h) apart = (sym apart.0, and_comm h.greens g.greens ∙ apart.1)
apart_both_ways (Some g) None apart = apart
apart_both_ways None (Some h) apart = apart
apart_both_ways None None apart = apart

-- two links that lead into a third have gates apart
earlier_is_apart : (raw : RawNet) (m a b : ℕ) → HasNoFault raw → m < length raw.links → a < b → b < length raw.links →
    leads_to (raw_link raw.links a) (raw_link raw.links m).name ≡ true → leads_to (raw_link raw.links b) (raw_link raw.links m).name ≡ true →
    AreApart (gate_of raw.signals (raw_link raw.links a)) (gate_of raw.signals (raw_link raw.links b))
earlier_is_apart raw m a b fine there before within first second =
    apart_from (gate_of raw.signals (raw_link raw.links a)) (gate_of raw.signals (raw_link raw.links b))
    (two_apart (gate_of raw.signals) (λ (link : RawLink). leads_to link (raw_link raw.links m).name) raw.links a b no_link (feeders_are_apart raw m fine there) before within first second)

pub feeders_apart : (raw : RawNet) (m a b : ℕ) → HasNoFault raw → m < length raw.links → a < length raw.links → b < length raw.links → a ≢ b →
    leads_to (raw_link raw.links a) (raw_link raw.links m).name ≡ true → leads_to (raw_link raw.links b) (raw_link raw.links m).name ≡ true →
    AreApart (gate_of raw.signals (raw_link raw.links a)) (gate_of raw.signals (raw_link raw.links b))
feeders_apart raw m a b fine there a_within b_within differ first second =
    elim (cases_order a b) [
      | inl same ↦ absurd (differ same)
      | inr (inl before) ↦ earlier_is_apart raw m a b fine there before b_within first second
      | inr (inr after) ↦
          apart_both_ways (gate_of raw.signals (raw_link raw.links b)) (gate_of raw.signals (raw_link raw.links a)) (earlier_is_apart raw m b a fine there after a_within second first)
    ]

-- a link that is led into has no queue
no_queue : (pieces : List Piece) → is_empty pieces ≡ true → queue_count pieces ≡ 0
no_queue [] none = refl
no_queue (piece ∷ pieces) none = absurd (false≢true none)

pub fed_has_no_queue : (raw : RawNet) (m a : ℕ) → HasNoFault raw → m < length raw.links → a < length raw.links → leads_to (raw_link raw.links a) (raw_link raw.links m).name ≡ true →
    queue_count (raw_link raw.links m).pieces ≡ 0
fed_has_no_queue raw m a fine there within leads =
    let name = (raw_link raw.links m).name in
    let pieces = (raw_link raw.links m).pieces in
    let some = list_any_at (λ (link : RawLink). leads_to link name) raw.links a no_link within leads in
    no_queue pieces (elim (and_cases (not (is_empty pieces)) (list_any (λ (link : RawLink). leads_to link name) raw.links) (queue_is_not_fed raw m fine there)) [
      | inl none ↦ not-false (is_empty pieces) none
      | inr none ↦ absurd (false≢true (sym none ∙ some))
    ])
