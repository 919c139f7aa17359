use Rattle.co_picture.proofs.Latest.{is_latest}
use Rattle.co_picture.proofs.laws.arrows_come_from_the_latest_sending.Goals as goal

pub returns : goal.returns
returns c = λ before message. is_latest before message
