use Rattle.write.proofs.Laws.{key_and}
use Rattle.write.proofs.first_word.Goals as goal

pub returns : goal.returns
returns c =
    let a = c.args in
    key_and a.key c.to_le_bytes.result c.padded-word.result a.front.now c.copy_from_slice.new.self c.to_le_bytes.ensures
    c.padded-word.ensures c.copy_from_slice.ensures.after
