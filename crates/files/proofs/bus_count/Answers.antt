-- `files::bus_count`: the first byte, or three.
use native.Mathlib.Omega.{arith}
use Rattle.model.specs.Laws.Tests.{facts}
use Rattle.files.specs.File.{first_byte, three_buses}
use Rattle.files.proofs.bus_count.Goals as goal

pub returns-then-file-gt0 : goal.returns-then-file-gt0
returns-then-file-gt0 c = first_byte c.args.file.now (omega (arith, facts))

pub returns : goal.returns
returns c = three_buses c.args.file.now (omega (arith, facts))
