use Rattle.co_picture.proofs.Page.{within_page}
use Rattle.co_picture.proofs.laws.pictures_lie_within_the_page.Goals as goal

pub returns : goal.returns
returns c = λ items. within_page items
