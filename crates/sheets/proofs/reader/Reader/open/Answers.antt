use Rattle.std.proofs.Common.{Ok, Result, sym, refl, ap, ◌∙◌, subst}
use Rattle.facts.specs.declared.refusals.Refusal.{Refusal}
use Rattle.sheets.specs.declared.rows.Said.{Said}
use Rattle.sheets.specs.Holdings.{plain_sheet}
use Rattle.sheets.specs.Drafts.{draft_kind, draft_sheet}
use Rattle.sheets.specs.Scanning.{opening, advanced_by}
use Rattle.sheets.specs.Machine.{Opened}
use Rattle.sheets.proofs.Alike.{same_progress}
use Rattle.sheets.proofs.reader.Reader.open.Goals as goal

pub returns : goal.returns
returns c =
    let d = c.in_ok-plain-in-Head.field-0 in
    let k = c.in-Head.kind in
    let plain = c.in_ok-plain-in-Head.ensures in
    subst (λ (j : Result Said Refusal). Opened (advanced_by opening j) (Ok (record { draft = d; from = 0 }))) (ap Ok (sym c.in-Head.is) ∙ c.in_ok-size.ensures)
    (record { draft = d; from = 0 }, refl, same_progress (draft_kind d) k (draft_sheet d) (plain_sheet k c.in-Head.size) 0 plain.1 plain.2)
