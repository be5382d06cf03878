use Rattle.std.proofs.Common.{arith}
use Rattle.lo_program.proofs.BitLaws.{green_kept, small_bit, small_step}
use Rattle.lo_program.proofs.rules.bits.bit.Goals as goal

pub overflow_mul-first : goal.overflow_mul-first
overflow_mul-first c = omega (arith, small_step c.args.net.now c.args.bits.now c.args.t c.requires.valid c.requires.bits c.requires.before)

pub overflow_add-first : goal.overflow_add-first
overflow_add-first c = omega (arith, small_step c.args.net.now c.args.bits.now c.args.t c.requires.valid c.requires.bits c.requires.before)

pub bounds-as_slice-p : goal.bounds-as_slice-p
bounds-as_slice-p c =
    let inside = rw c.in-Green.is at c.requires.letter in
    (green_kept c.args.net.now c.args.bits.now c.as_slice.result.now c.in-Green.p c.requires.bits c.as_slice.ensures inside).0

pub overflow_add-result : goal.overflow_add-result
overflow_add-result c =
    let inside = rw c.in-Green.is at c.requires.letter in
    omega (arith, (green_kept c.args.net.now c.args.bits.now c.as_slice.result.now c.in-Green.p c.requires.bits c.as_slice.ensures inside).1, (small_bit c.args.net.now c.args.bits.now c.args.t c.in-Green.p c.requires.valid c.requires.bits c.requires.before inside).1)

pub bounds-as_slice-p-in-Clear : goal.bounds-as_slice-p-in-Clear
bounds-as_slice-p-in-Clear c =
    let inside = rw c.in-Clear.is at c.requires.letter in
    (green_kept c.args.net.now c.args.bits.now c.as_slice-in-Clear.result.now c.in-Clear.p c.requires.bits c.as_slice-in-Clear.ensures inside.0).0

pub overflow_add-result-in-Clear : goal.overflow_add-result-in-Clear
overflow_add-result-in-Clear c =
    let inside = rw c.in-Clear.is at c.requires.letter in
    omega (arith, (green_kept c.args.net.now c.args.bits.now c.as_slice-in-Clear.result.now c.in-Clear.p c.requires.bits c.as_slice-in-Clear.ensures inside.0).1, (small_bit c.args.net.now c.args.bits.now c.args.t c.in-Clear.p c.requires.valid c.requires.bits c.requires.before inside.0).1)

pub overflow_add-result-in-Clear-2 : goal.overflow_add-result-in-Clear-2
overflow_add-result-in-Clear-2 c =
    let inside = rw c.in-Clear.is at c.requires.letter in
    omega (arith, (green_kept c.args.net.now c.args.bits.now c.as_slice-in-Clear.result.now c.in-Clear.p c.requires.bits c.as_slice-in-Clear.ensures inside.0).1, (small_bit c.args.net.now c.args.bits.now c.args.t c.in-Clear.p c.requires.valid c.requires.bits c.requires.before inside.0).1)

pub returns-in-Green : goal.returns-in-Green
returns-in-Green c =
    let inside = rw c.in-Green.is at c.requires.letter in
    rw (c.requires.bits.of_step, c.requires.bits.first, c.in-Green.is, (green_kept c.args.net.now c.args.bits.now c.as_slice.result.now c.in-Green.p c.requires.bits c.as_slice.ensures inside).1) (omega arith)

pub returns-in-Clear : goal.returns-in-Clear
returns-in-Clear c =
    let inside = rw c.in-Clear.is at c.requires.letter in
    rw (c.requires.bits.of_step, c.requires.bits.first, c.in-Clear.is, (green_kept c.args.net.now c.args.bits.now c.as_slice-in-Clear.result.now c.in-Clear.p c.requires.bits c.as_slice-in-Clear.ensures inside.0).1) (omega arith)
