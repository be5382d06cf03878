use Rattle.point_decode.proofs.SmallValues.{product_is, product_is_small}
use Rattle.point_decode.proofs.judge.product.Goals as goal

pub returns-clause-value : goal.returns-clause-value
returns-clause-value c = product_is c.args.coefficient c.args.value c.requires.coefficient c.requires.value

pub returns-clause-small : goal.returns-clause-small
returns-clause-small c = rw (product_is c.args.coefficient c.args.value c.requires.coefficient c.requires.value) (product_is_small c.args.coefficient c.args.value c.requires.coefficient c.requires.value)
