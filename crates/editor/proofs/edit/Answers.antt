-- The question's refusal, the counts' refusal, or the change.
use Rattle.std.proofs.Common.{sym, ◌∙◌}
use Rattle.editor.proofs.Changes.{edit_refused, edit_unfit, edit_done}
use Rattle.editor.proofs.edit.Goals as goal

pub returns-in_default : goal.returns-in_default
returns-in_default c =
    edit_unfit _ _ _ _ _ _ _ _ _ c.in-Ok.ensures (c.not_edited-in_default.ensures ∙ rw c.at.ensures) (sym c.without_rows.ensures ∙ c.in_default.is)

pub returns-in-Err : goal.returns-in-Err
returns-in-Err c = edit_refused _ _ _ _ _ _ _ c.not_edited.ensures c.in-Err.ensures

pub returns-in-Ok-without_rows : goal.returns-in-Ok-without_rows
returns-in-Ok-without_rows c =
    edit_done _ _ _ _ _ _ _ _ _ c.in-Ok.ensures (sym c.without_rows.ensures ∙ c.in-Ok-without_rows.is) c.write.ensures c.with_rows.ensures
