-- The limits again as they stand on the page (docs/LIMITS.md): whoever changes one changes it here too, and knows it.
use Rattle.std.proofs.Common.{◌≡◌, refl}
use Rattle.limits.specs.declared.TheConstants.{MAX_FILE_BYTES, MAX_NAME_BYTES, GREEN_DIGITS, MAX_STEPS, MAX_LINKS, MAX_CELLS, MAX_SIGNALS, MIN_PHASES, MAX_PHASES, MAX_NAMED_PHASES, MAX_GREEN, MAX_CLEAR, MAX_CAPACITY, MAX_STORAGE, MAX_WAVE, MAX_DEMAND, MIN_BRANCHES, MAX_BRANCHES, MAX_PARCEL}
use Rattle.sparse_program.specs.declared.limits.TheConstants.{MAX_ROWS}
use Rattle.program_text.specs.declared.constants.TheConstants.{MAX_POINT_BYTES}
use Rattle.certificate_model.specs.declared.constants.TheConstants.{MAX_CERTIFICATE_BYTES, MAX_PRICE}

pub max_file_bytes : MAX_FILE_BYTES ≡ 1048576
max_file_bytes = refl

pub max_name_bytes : MAX_NAME_BYTES ≡ 24
max_name_bytes = refl

pub green_digits : GREEN_DIGITS ≡ 4
green_digits = refl

pub max_steps : MAX_STEPS ≡ 240
max_steps = refl

pub max_links : MAX_LINKS ≡ 64
max_links = refl

pub max_cells : MAX_CELLS ≡ 256
max_cells = refl

pub max_signals : MAX_SIGNALS ≡ 16
max_signals = refl

pub min_phases : MIN_PHASES ≡ 2
min_phases = refl

pub max_phases : MAX_PHASES ≡ 8
max_phases = refl

pub max_named_phases : MAX_NAMED_PHASES ≡ 16
max_named_phases = refl

pub max_green : MAX_GREEN ≡ 60
max_green = refl

pub max_clear : MAX_CLEAR ≡ 20
max_clear = refl

pub max_capacity : MAX_CAPACITY ≡ 1000
max_capacity = refl

pub max_storage : MAX_STORAGE ≡ 10000
max_storage = refl

pub max_wave : MAX_WAVE ≡ 100
max_wave = refl

pub max_demand : MAX_DEMAND ≡ 1000
max_demand = refl

pub min_branches : MIN_BRANCHES ≡ 2
min_branches = refl

pub max_branches : MAX_BRANCHES ≡ 4
max_branches = refl

pub max_parcel : MAX_PARCEL ≡ 100
max_parcel = refl

pub max_rows : MAX_ROWS ≡ 400000
max_rows = refl

pub max_point_bytes : MAX_POINT_BYTES ≡ 16777216
max_point_bytes = refl

pub max_certificate_bytes : MAX_CERTIFICATE_BYTES ≡ 134217728
max_certificate_bytes = refl

pub max_price : MAX_PRICE ≡ 1099511627776
max_price = refl
