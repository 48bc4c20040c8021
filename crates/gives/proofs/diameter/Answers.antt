-- A declaration of this tool, of another one, or no declaration: each way out is one law.
use borrow.Enum.Refused.{opened}
use Rattle.gives.proofs.Gives.{declared_not, declared_other}
use Rattle.gives.proofs.diameter.Goals as goal

pub returns-else-t-tool : goal.returns-else-t-tool
returns-else-t-tool c = declared_not _ _ _ _ c.in-Declare.is c.if-t-tool.false

pub returns-in_default : goal.returns-in_default
returns-in_default c = declared_other _ _ (opened c.in_default.in_default-own.keys2)
