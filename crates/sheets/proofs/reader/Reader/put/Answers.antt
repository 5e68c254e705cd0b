use Rattle.std.proofs.Common.{◌+◌, ◌*◌, refl, ap, ◌∙◌}
use Rattle.facts.specs.Sheets.{amended}
use Rattle.sheets.specs.Drafts.{draft_kind, draft_sheet}
use Rattle.sheets.specs.Scanning.{after}
use Rattle.sheets.proofs.Alike.{same_progress}
use Rattle.sheets.proofs.reader.Reader.put.Goals as goal

pub returns : goal.returns
returns c =
    let old = c.args.self.now.draft in
    let new = c.amend.new.self in (
      refl,
      ap (λ p. after (draft_kind new) (draft_sheet new) (p + 1)) c.place_of.ensures
          ∙ same_progress (draft_kind new) (draft_kind old) (draft_sheet new) (amended (draft_sheet old) c.args.first c.args.second c.args.facts) (c.args.first * 16 + c.args.second + 1)
          c.amend.ensures.kind (c.amend.ensures.accepted c.requires.is_not_refused),
    )
