use Rattle.co_svg.proofs.text.append_ground.Goals as goal

pub returns : goal.returns
returns c = c.append_box.ensures
