use Rattle.co_disk.proofs.Images.{chosen_is_image, read_is_image}
use Rattle.std.proofs.Common.{length}
use Rattle.co_disk.proofs.Filling.{gathered, image_is_filled}
use Rattle.co_disk.proofs.laws.chosen_are_images.Goals as goal

pub returns-clause-chosen : goal.returns-clause-chosen
returns-clause-chosen c = chosen_is_image

pub returns-clause-read : goal.returns-clause-read
returns-clause-read c = read_is_image

pub returns-clause-filled : goal.returns-clause-filled
returns-clause-filled c disk bytes sound image = (gathered disk bytes (length bytes), image_is_filled disk bytes sound image)
