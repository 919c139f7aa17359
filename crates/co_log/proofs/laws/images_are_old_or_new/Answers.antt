use Rattle.std.proofs.Common.{refl}
use Rattle.co_disk.specs.DiskModel.{stable_disk}
use Rattle.co_log.proofs.Unmade.{short_image}
use Rattle.co_log.proofs.Images.{batch_images, old_or_both, chosen_at, written_whole}
use Rattle.co_log.proofs.laws.images_are_old_or_new.Goals as goal

pub returns-clause-closing : goal.returns-clause-closing
returns-clause-closing c = λ bytes image short is. short_image (stable_disk bytes) image refl short is

pub returns-clause-early : goal.returns-clause-early
returns-clause-early c = λ bytes image batch gate items ends is. batch_images bytes image gate items batch ends is

pub returns-clause-late : goal.returns-clause-late
returns-clause-late c = old_or_both

pub returns-clause-chosen : goal.returns-clause-chosen
returns-clause-chosen c = λ call bytes image gate items more leaves ends these one chosen. (chosen_at call bytes image gate items more leaves ends these one chosen).1

pub returns-clause-after : goal.returns-clause-after
returns-clause-after c = written_whole
