-- What a shelf and a sink in memory show.
use Rattle.std.specs.Prelude.{◌==◌, ◌++◌, ℕ, Bool, List, Some, refl}
use Rattle.std.specs.List.{list_any}
use Rattle.std.specs.Coded.{Coded, code_by, coded×, coded_list, coded_ℕ}
use Rattle.std.specs.FinMap as map
use Rattle.shelf_io.specs.Told.{Files, ShelfState, SinkState}
use Rattle.shelf_io.specs.Counts.{risen}

-- the files, how many calls there were, the numbers of the calls that are to fail, the greatest number of bytes per
-- call, and how many reads and how many writes failed
pub record ShelfInMemory : Type 0 where
  pub files : Files
  pub calls : ℕ
  pub failing : List ℕ
  pub most : ℕ
  pub read_faults : ℕ
  pub write_faults : ℕ

-- the bytes taken, how many calls there were, the numbers of the calls that are to fail, the greatest number of bytes
-- per call, and how many calls failed
pub record SinkInMemory : Type 0 where
  pub taken : List ℕ
  pub calls : ℕ
  pub failing : List ℕ
  pub most : ℕ
  pub faults : ℕ

-- what it is as a shelf: it tells its content
abbrev pub state_of : ShelfInMemory → ShelfState
state_of shelf = record { files = Some shelf.files; read_faults = shelf.read_faults; write_faults = shelf.write_faults }

-- what it is as a sink: it tells its content
abbrev pub sink_state_of : SinkInMemory → SinkState
sink_state_of sink = record { taken = Some sink.taken; faults = sink.faults }

-- after so many calls the next is to fail; calls are numbered from 1
abbrev pub is_to_fail : ℕ → List ℕ → Bool
is_to_fail calls failing = list_any (λ number. number == risen calls) failing

-- one call more
abbrev pub after_call : ShelfInMemory → ShelfInMemory
after_call shelf = record shelf { calls = risen shelf.calls }

-- one call more, a read that failed and is counted
abbrev pub after_failed_read : ShelfInMemory → ShelfInMemory
after_failed_read shelf = record shelf { calls = risen shelf.calls; read_faults = risen shelf.read_faults }

-- one call more, a write that failed and is counted
abbrev pub after_failed_write : ShelfInMemory → ShelfInMemory
after_failed_write shelf = record shelf { calls = risen shelf.calls; write_faults = risen shelf.write_faults }

-- one call more, after which the files are these
abbrev pub after_write : ShelfInMemory → Files → ShelfInMemory
after_write shelf files = record shelf { calls = risen shelf.calls; files = files }

-- one call more, after which these bytes were taken
abbrev pub after_take : SinkInMemory → List ℕ → SinkInMemory
after_take sink bytes = record sink { calls = risen sink.calls; taken = sink.taken ++ bytes }

-- one call more, which failed and is counted
abbrev pub after_failed_take : SinkInMemory → SinkInMemory
after_failed_take sink = record sink { calls = risen sink.calls; faults = risen sink.faults }

-- a shelf's content is stored as the tuple of its fields
abbrev pub shelf_code : Coded ShelfInMemory
shelf_code = code_by (Files × (ℕ × (List ℕ × (ℕ × (ℕ × ℕ)))))
    (coded× (map.code (coded_list coded_ℕ) (coded_list coded_ℕ)) (coded× coded_ℕ (coded× (coded_list coded_ℕ) (coded× coded_ℕ (coded× coded_ℕ coded_ℕ)))))
    (λ s. (s.files, (s.calls, (s.failing, (s.most, (s.read_faults, s.write_faults))))))
    (λ p. record { files = p.0; calls = p.1.0; failing = p.1.1.0; most = p.1.1.1.0; read_faults = p.1.1.1.1.0; write_faults = p.1.1.1.1.1 })
    (λ _. refl)

-- a sink's content likewise
abbrev pub sink_code : Coded SinkInMemory
sink_code = code_by (List ℕ × (ℕ × (List ℕ × (ℕ × ℕ))))
    (coded× (coded_list coded_ℕ) (coded× coded_ℕ (coded× (coded_list coded_ℕ) (coded× coded_ℕ coded_ℕ))))
    (λ s. (s.taken, (s.calls, (s.failing, (s.most, s.faults)))))
    (λ p. record { taken = p.0; calls = p.1.0; failing = p.1.1.0; most = p.1.1.1.0; faults = p.1.1.1.1 })
    (λ _. refl)
