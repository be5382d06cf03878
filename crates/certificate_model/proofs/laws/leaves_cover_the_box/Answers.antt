use Rattle.certificate_model.specs.Leaves.{IsGoodLeaf}
use Rattle.certificate_model.proofs.TreeLaws.{LeafAt, leaf_at, leaf_is_good}
use Rattle.certificate_model.proofs.laws.leaves_cover_the_box.Goals as goal

pub returns-clause-cover : goal.returns-clause-cover
returns-clause-cover c = λ columns box tree x inside.
    let at : LeafAt columns box tree x = leaf_at columns box tree x inside in
    (at.inner, at.leaf, (at.of, at.inside))

pub returns-clause-good : goal.returns-clause-good
returns-clause-good c = λ net bound columns box tree x good inside.
    let at : LeafAt columns box tree x = leaf_at columns box tree x inside in
    (at.inner, at.leaf, (at.of, leaf_is_good (IsGoodLeaf net bound) box tree at.inner at.leaf good at.of, at.inside))
