use Rattle.std.proofs.Common.{arith, length, map}
use Rattle.ct_base.specs.Access.{signal_of}
use Rattle.sparse_program.specs.declared.limits.TheConstants.{MAX_COLUMNS}
use Rattle.program_model.specs.Columns.{Bit, bits_at, letters_of}
use Rattle.program_columns.proofs.BuildingLaws.{parts_begin, parts_end, parts_fit, parts_more}
use Rattle.program_columns.proofs.FrontLaws.{front_exit, front_part}
use Rattle.program_columns.proofs.columns.bits.add_bits_at.Goals as goal

pub loop-s-init : goal.loop-s-init
loop-s-init c = parts_begin c.args.net.now c.args.builder.now (λ s. map (Bit c.args.t s) (letters_of (signal_of c.args.net.now.signals s)))

pub add_bits_of-requires-clause-room : goal.add_bits_of-requires-clause-room
unfolding bits_at
add_bits_of-requires-clause-room c =
    parts_fit c.args.net.now c.args.builder.now c.loop-s.builder (length c.args.net.now.signals) c.loop-s.s MAX_COLUMNS (λ s. map (Bit c.args.t s) (letters_of (signal_of c.args.net.now.signals s)))
    c.loop-s.invariant (omega arith) c.requires.room

pub loop-s-preserved : goal.loop-s-preserved
loop-s-preserved c =
    parts_more c.args.net.now c.args.builder.now c.loop-s.builder c.add_bits_of.new.builder c.loop-s.s (λ s. map (Bit c.args.t s) (letters_of (signal_of c.args.net.now.signals s)))
    c.loop-s.invariant c.in_ok-add_bits_of.ensures

pub returns : goal.returns
unfolding bits_at
returns c =
    parts_end c.args.net.now c.args.builder.now c.loop-s.builder (length c.args.net.now.signals) c.loop-s.s (λ s. map (Bit c.args.t s) (letters_of (signal_of c.args.net.now.signals s)))
    c.loop-s.invariant (omega arith)

pub returns-in_err-add_bits_of : goal.returns-in_err-add_bits_of
unfolding bits_at
returns-in_err-add_bits_of c =
    front_exit _ c.from_residual.result c.from_residual.ensures.1
    (front_part c.args.net.now c.args.builder.now c.loop-s.builder c.add_bits_of.new.builder (length c.args.net.now.signals) c.loop-s.s (λ s. map (Bit c.args.t s) (letters_of (signal_of c.args.net.now.signals s)))
    (omega arith) c.loop-s.invariant c.in_err-add_bits_of.ensures)
