-- `append_labelled`: the number follows the text.
use Rattle.model.specs.Laws.Appended.{appended_more}
use Rattle.heads.proofs.append_labelled.Goals as goal

pub returns : goal.returns
returns c = appended_more c.append-number.ensures
    c.append_number.ensures
