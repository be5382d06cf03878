use Rattle.std.proofs.Common.{◌≡◌, ◌∷◌, ap, ◌∙◌, sym, subst, w64, rules}
use Rattle.std.proofs.lemmas.Int.{to_z-of_z}
use Rattle.certificate_model.specs.Tree.{left_of}
use Rattle.cert_check.specs.declared.frame.Frame.TheVariants.{Left}
use Rattle.safe_bound.specs.Costed.{Costed, IsCostedOf}
use Rattle.cert_check.specs.declared.walk.Walk.{Walk}
use Rattle.cert_check.proofs.WalkLaws.{boxes_of_left, frames_of_left}
use Rattle.cert_check.proofs.walk.Walk.enter_split.Goals as goal
use mir.Val.{SFits}

-- the box that was narrowed
inner : (c : goal.In_ok-push) → c.forget.new.self.costed.box ≡ left_of c.args.self.now.costed.box c.args.column c.args.at
inner c =
    let fits : SFits w64 c.args.at = c.ranges.at in
    ap (λ (walk : Walk). walk.costed.box) c.forget.ensures ∙ (simp to_z-of_z at c.narrow_high-high.ensures.new)

-- the frame that was pushed
below : (c : goal.In_ok-push) → c.push.new.self ≡ Left c.args.column c.args.at c.narrow_high-high.result ∷ c.args.self.now.frames
below c =
    let fits : SFits w64 c.args.at = c.ranges.at in
    let high_fits : SFits w64 c.narrow_high-high.result = search rules in
    (simp to_z-of_z at c.in_ok-push.ensures.ok)
    ∙ ap (λ (walk : Walk). Left c.args.column c.args.at c.narrow_high-high.result ∷ walk.frames) c.forget.ensures

pub returns-clause-walk : goal.returns-clause-walk
returns-clause-walk c =
    record {
      costed = subst (λ (costed : Costed). IsCostedOf c.args.program.now costed) (sym (ap (λ (walk : Walk). walk.costed) c.forget.ensures)) c.narrow_high-high.ensures.of;
      frames = frames_of_left c.args.self.now.costed.box c.forget.new.self.costed.box c.args.self.now.frames c.push.new.self c.args.column c.args.at
          c.narrow_high-high.result c.is_box.ensures c.requires.split c.requires.walk.frames (inner c) c.narrow_high-high.ensures.old (below c);
    }

pub returns-clause-boxes : goal.returns-clause-boxes
returns-clause-boxes c =
    boxes_of_left c.args.self.now.costed.box c.forget.new.self.costed.box c.args.self.now.frames c.push.new.self c.args.column c.args.at
    c.narrow_high-high.result (inner c) c.narrow_high-high.ensures.old (below c)
