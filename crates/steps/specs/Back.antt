-- The number of a place leads back to the place.
use Rattle.std.proofs.Common.{◌≡◌, rules}
use Rattle.steps.specs.declared.four_line.FourPlace.{FourPlace}
use Rattle.steps.specs.declared.plain.PlainPlace.{PlainPlace}
use Rattle.steps.specs.FourLine as four
use Rattle.steps.specs.Plain as plains

pub four_back : (x : FourPlace) → four.view (four.label x) ≡ x
unfolding four.view
four_back = search rules

pub plain_back : (x : PlainPlace) → plains.view (plains.label x) ≡ x
unfolding plains.view
plain_back = search rules
