use Rattle.std.proofs.Common.{◌≡◌, ◌<◌, ◌∷◌, pos, ◌+ℤ◌, ap, ◌∙◌, sym, w64, rules, length, arith, subst}
use Rattle.std.proofs.lemmas.Int.{to_z-of_z, ints}
use Rattle.sparse_program.specs.Box.{Ranges}
use Rattle.certificate_model.specs.Tree.{right_of}
use Rattle.cert_check.specs.declared.frame.Frame.TheVariants.{Right}
use Rattle.safe_bound.specs.Costed.{Costed, IsCostedOf}
use Rattle.cert_check.specs.declared.walk.Walk.{Walk}
use Rattle.cert_check.specs.inner.Waiting.{AreFrames, waiting, with_high}
use Rattle.cert_check.proofs.WalkLaws.{boxes_of_right, frames_of_right, still_known, takes_of_right}
use Rattle.cert_check.proofs.walk.Walk.enter_right.Goals as goal
use mir.Val.{SFits}

-- the box whose high was set back
outer : (c : goal.In_ok-push) → c.undo_high.new.self.box ≡ with_high c.args.self.now.costed.box c.args.column c.args.high
outer c = let fits : SFits w64 c.args.high = c.ranges.high in simp to_z-of_z at c.undo_high.ensures.new

-- the box that was narrowed
inner : (c : goal.In_ok-push) → c.forget.new.self.costed.box ≡ right_of c.undo_high.new.self.box c.args.column c.args.at
inner c =
    let fits : SFits w64 c.args.at = c.ranges.at in
    let more_fits : SFits w64 (c.args.at +ℤ pos 1) = omega (arith, ints, c.requires.left.above, c.requires.left.small, c.ranges.at, c.ranges.high) in
    ap (λ (walk : Walk). walk.costed.box) c.forget.ensures ∙ (simp to_z-of_z at c.narrow_low-low.ensures.new)

-- the frame that was pushed
below : (c : goal.In_ok-push) → c.push.new.self ≡ Right c.args.column c.narrow_low-low.result ∷ c.args.self.now.frames
below c =
    let low_fits : SFits w64 c.narrow_low-low.result = search rules in
    (simp to_z-of_z at c.in_ok-push.ensures.ok)
    ∙ ap (λ (walk : Walk). Right c.args.column c.narrow_low-low.result ∷ walk.frames) c.forget.ensures

pub returns-clause-walk : goal.returns-clause-walk
returns-clause-walk c =
    record {
      costed = subst (λ (costed : Costed). IsCostedOf c.args.program.now costed) (sym (ap (λ (walk : Walk). walk.costed) c.forget.ensures)) c.narrow_low-low.ensures.of;
      frames = frames_of_right c.undo_high.new.self.box c.forget.new.self.costed.box c.args.self.now.frames c.push.new.self c.args.column c.args.at
          c.narrow_low-low.result c.is_box.ensures
          (subst (λ (box : Ranges). c.args.column < length box.lows) (sym (outer c)) c.requires.left.there)
          (subst (λ (box : Ranges). AreFrames box c.args.self.now.frames) (sym (outer c)) c.requires.frames)
          (inner c) c.narrow_low-low.ensures.old (below c);
    }

pub returns-clause-boxes : goal.returns-clause-boxes
returns-clause-boxes c =
    boxes_of_right c.undo_high.new.self.box c.forget.new.self.costed.box c.args.self.now.frames c.push.new.self c.args.column c.args.at
    c.narrow_low-low.result (inner c) c.narrow_low-low.ensures.old (below c)
    ∙ ap (λ (box : Ranges). right_of box c.args.column c.args.at ∷ waiting box c.args.self.now.frames) (outer c)

pub returns-clause-known : goal.returns-clause-known
returns-clause-known c =
    still_known c.args.program.now.plan_cols c.args.column c.args.self.now
    (record { costed = c.forget.new.self.costed; frames = c.push.new.self; known = c.forget.new.self.known })
    (takes_of_right c.args.program.now.plan_cols c.args.column c.args.self.now.costed.box c.undo_high.new.self.box c.forget.new.self.costed.box c.args.at
    c.args.high (outer c) (inner c))
    (ap (λ (walk : Walk). walk.known) c.forget.ensures)
