-- Networks worked by hand: two arms that meet behind a signal, and a link with units on it that splits over two. As
-- `build` answers exactly what the definitions say, these are its answers too.
use Rattle.std.proofs.Common.{◌≡◌, ℕ, List, [], ◌∷◌, Option, Some, None, codes, refl}
use Rattle.listed.specs.Below.{sum_below, table_of, join_below}
use Rattle.ct_base.specs.declared.cell.Cell.{Cell}
use Rattle.ct_base.specs.declared.cell.Gate.{Gate}
use Rattle.ct_base.specs.declared.cell.Kind.TheVariants.{Road}
use Rattle.ct_base.specs.declared.cell.Out.{Out}
use Rattle.ct_base.specs.declared.cell.Out.TheVariants.{Exit, To, Turns}
use Rattle.network_file.specs.declared.raw.RawNet.{RawNet}
use Rattle.network_file.specs.declared.raw.RawLink.{RawLink}
use Rattle.cell_build.specs.Built.{named_of}
use Rattle.cell_build.specs.Naming.{places_of}
use Rattle.cell_build.specs.Link.{cells_of_link, cells_of_links}
use Rattle.cell_build.specs.Refusals.{demand, faults_of, fed, initial_units, itself, many_cells, open_merge, out_both, phase, twice_turn, unknown_link, unknown_phase, unknown_signal}
use Rattle.demand.specs.Spread.{faults_of as demand_faults, rates_of}

-- a link of cells of capacity 3 and storage 5, which leads out of the network
abbrev road : List ℕ → ℕ → RawLink
road name cells = record { name = name; cells = cells; cap = 3; store = 5; wave_p = 1; wave_q = 2; to = None; turns = []; signal = None; greens = []; initial = None; pieces = [] }

-- one of its cells
abbrev cell : Option Gate → Out → ℕ → Cell
cell gate out initial = record { kind = Road; cap = 3; store = 5; wave_p = 1; wave_q = 2; gate = gate; out = out; initial = initial; demand = [] }

-- a link of one cell that leads into `out` in the green of one phase
abbrev arm : List ℕ → List ℕ → RawLink
arm name green = record (road name 1) { to = Some (codes "out"); signal = Some (codes "lights"); greens = green ∷ [] }

-- two arms that meet behind a signal, which starts with its second phase
abbrev crossing : RawNet
crossing = record {
  steps = 4;
  links = arm (codes "west") (codes "ew") ∷ arm (codes "south") (codes "ns") ∷ road (codes "out") 1 ∷ [];
  signals = (record {
    name = codes "lights";
    start = Some (codes "ns");
    phases = (record { name = codes "ew"; min = 1; max = 5; clear = 4; next = codes "ns" ∷ [] }) ∷ (record { name = codes "ns"; min = 2; max = 6; clear = 5; next = codes "ew" ∷ [] }) ∷ [];
  }) ∷ [];
}

-- a link of two cells with units on them, which splits over a link after it in the file and one before it
abbrev fork : RawNet
fork = record {
  steps = 4;
  links = road (codes "left") 1
      ∷ (record (road (codes "stem") 2) { turns = (codes "right", 2) ∷ (codes "left", 1) ∷ []; initial = Some (4 ∷ 1 ∷ []) })
      ∷ road (codes "right") 1 ∷ [];
  signals = [];
}

-- each arm leads into cell 2, behind the one phase of signal 0 that opens it
pub two_arms_meet_behind_a_signal : named_of crossing ≡ record {
  net = record {
    steps = 4;
    cells = cell (Some (record { signal = 0; greens = 1 })) (To 2) 0 ∷ cell (Some (record { signal = 0; greens = 2 })) (To 2) 0 ∷ cell None Exit 0 ∷ [];
    signals = (record {
      start = 1;
      phases = (record { min = 1; max = 5; clear = 4; next = 2 }) ∷ (record { min = 2; max = 6; clear = 5; next = 1 }) ∷ [];
    }) ∷ [];
  };
  names = record {
    links = codes "west" ∷ codes "south" ∷ codes "out" ∷ [];
    signals = (record { name = codes "lights"; phases = codes "ew" ∷ codes "ns" ∷ [] }) ∷ [];
    places = (record { link = 0; road = Some 0 }) ∷ (record { link = 1; road = Some 0 }) ∷ (record { link = 2; road = Some 0 }) ∷ [];
  };
}
unfolding named_of places_of cells_of_links cells_of_link join_below table_of sum_below
two_arms_meet_behind_a_signal = refl

-- cell 1 leads to cell 2, which splits: two units of a parcel go to cell 3 and one to cell 0
pub a_link_splits_over_two : named_of fork ≡ record {
  net = record {
    steps = 4;
    cells = cell None Exit 0 ∷ cell None (To 2) 4 ∷ cell None (Turns ((3, 2) ∷ (0, 1) ∷ [])) 1 ∷ cell None Exit 0 ∷ [];
    signals = [];
  };
  names = record {
    links = codes "left" ∷ codes "stem" ∷ codes "right" ∷ [];
    signals = [];
    places = (record { link = 0; road = Some 0 }) ∷ (record { link = 1; road = Some 0 }) ∷ (record { link = 1; road = Some 1 }) ∷ (record { link = 2; road = Some 0 }) ∷ [];
  };
}
unfolding named_of places_of cells_of_links cells_of_link join_below table_of sum_below
a_link_splits_over_two = refl

-- neither has a fault
pub the_crossing_has_no_fault : faults_of crossing ≡ []
unfolding unknown_link unknown_signal unknown_phase out_both itself twice_turn fed open_merge initial_units many_cells demand demand_faults rates_of phase sum_below table_of
the_crossing_has_no_fault = refl

pub the_fork_has_no_fault : faults_of fork ≡ []
unfolding unknown_link unknown_signal unknown_phase out_both itself twice_turn fed open_merge initial_units many_cells demand demand_faults rates_of phase sum_below table_of
the_fork_has_no_fault = refl
