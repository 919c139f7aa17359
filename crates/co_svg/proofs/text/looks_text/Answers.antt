use Rattle.std.proofs.Common.{refl}
use Rattle.co_svg.specs.Svg.{looks}
use Rattle.co_svg.proofs.text.looks_text.Goals as goal

pub returns : goal.returns
unfolding looks
returns c = refl
