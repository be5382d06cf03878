use Rattle.std.proofs.Common.{◌≡◌, ℕ, List, ap, arith, length, map, ◌∙◌, sym}
use Rattle.listed.specs.Below.{join_below}
use Rattle.ct_base.specs.Access.{phase_of, signal_of}
use Rattle.ct_base.specs.declared.net.Net.{Net}
use Rattle.ct_base.specs.declared.signal.Signal.{Signal}
use Rattle.sparse_program.specs.declared.limits.TheConstants.{MAX_COLUMNS}
use Rattle.program_model.specs.Columns.{Bit, Column, letters_by, letters_of}
use Rattle.program_columns.specs.Columns.{with_columns}
use Rattle.program_columns.proofs.BuildingLaws.{map_join, parts_begin, parts_end, parts_fit, parts_more}
use Rattle.program_columns.proofs.FrontLaws.{front_exit, front_part}
use Rattle.program_columns.proofs.columns.bits.add_bits_of.Goals as goal

-- the bits that phase p brings
abbrev parts : Net → ℕ → ℕ → ℕ → List Column
parts net t s p = map (Bit t s) (letters_by p (phase_of (signal_of net.signals s) p).clear)

-- the bits of all phases
whole : (net : Net) (t s : ℕ) → map (Bit t s) (letters_of (signal_of net.signals s)) ≡ join_below (length (signal_of net.signals s).phases) (parts net t s)
unfolding letters_of
whole net t s = map_join (Bit t s) (length (signal_of net.signals s).phases) (λ p. letters_by p (phase_of (signal_of net.signals s) p).clear)

pub loop-p-init : goal.loop-p-init
loop-p-init c = parts_begin c.args.net.now c.args.builder.now (parts c.args.net.now c.args.t c.args.s)

pub add_bits_by-requires-clause-room : goal.add_bits_by-requires-clause-room
add_bits_by-requires-clause-room c =
    let phases = ap (λ (signal : Signal). length signal.phases) c.signal.ensures.value in
    parts_fit c.args.net.now c.args.builder.now c.loop-p.builder (length (signal_of c.args.net.now.signals c.args.s).phases) c.loop-p.p MAX_COLUMNS (parts c.args.net.now c.args.t c.args.s)
    c.loop-p.invariant (omega (arith, phases)) (omega (arith, c.requires.room, ap length (whole c.args.net.now c.args.t c.args.s)))

pub loop-p-preserved : goal.loop-p-preserved
loop-p-preserved c =
    parts_more c.args.net.now c.args.builder.now c.loop-p.builder c.add_bits_by.new.builder c.loop-p.p (parts c.args.net.now c.args.t c.args.s) c.loop-p.invariant c.in_ok-add_bits_by.ensures

pub returns : goal.returns
returns c =
    let phases = ap (λ (signal : Signal). length signal.phases) c.signal.ensures.value in
    parts_end c.args.net.now c.args.builder.now c.loop-p.builder (length (signal_of c.args.net.now.signals c.args.s).phases) c.loop-p.p (parts c.args.net.now c.args.t c.args.s)
    c.loop-p.invariant (omega (arith, phases))
    ∙ ap (with_columns c.args.net.now c.args.builder.now) (sym (whole c.args.net.now c.args.t c.args.s))

pub returns-in_err-add_bits_by : goal.returns-in_err-add_bits_by
returns-in_err-add_bits_by c =
    let phases = ap (λ (signal : Signal). length signal.phases) c.signal.ensures.value in
    front_exit _ c.from_residual.result c.from_residual.ensures.1
    (rw (whole c.args.net.now c.args.t c.args.s)
    (front_part c.args.net.now c.args.builder.now c.loop-p.builder c.add_bits_by.new.builder (length (signal_of c.args.net.now.signals c.args.s).phases) c.loop-p.p (parts c.args.net.now c.args.t c.args.s)
    (omega (arith, phases)) c.loop-p.invariant c.in_err-add_bits_by.ensures))
