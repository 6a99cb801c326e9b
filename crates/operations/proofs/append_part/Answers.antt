-- `append_part`: the number and the byte behind it follow the kind.
use native.Mathlib.Omega.{arith}
use Rattle.operations.specs.Operations.{kind_length, marked_name_lem}
use Rattle.operations.proofs.append_part.Goals as goal

pub append_marked-requires : goal.append_marked-requires
append_marked-requires c =
    (omega arith, omega (arith, c.append_kind-number, c.append_kind-number.ensures.end, kind_length c.args.code, c.requires))

pub returns : goal.returns
returns c =
    marked_name_lem _ _ _ (omega arith) c.append_kind-number.ensures c.append_marked.ensures
