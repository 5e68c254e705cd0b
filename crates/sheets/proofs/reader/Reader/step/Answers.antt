use Rattle.std.proofs.Common.{◌≡◌, ℕ, ◌<◌, None, Ok, Option, sym, ap, ◌∙◌, arith}
use Rattle.facts.specs.Amendments.{refusal_of}
use Rattle.sources.specs.Holding.{legal_small, met}
use Rattle.sheets.specs.declared.draft.Draft.{Draft}
use Rattle.sheets.specs.declared.words.Word.{Word}
use Rattle.sheets.specs.declared.rows.Said.TheVariants.{Row as row}
use Rattle.sheets.specs.Drafts.{draft_kind, draft_sheet}
use Rattle.sheets.specs.Judging.{judged}
use Rattle.sheets.specs.Scanning.{awaited_from}
use Rattle.sheets.proofs.Standing.{draft_lawful, draft_carries}
use Rattle.sheets.proofs.Taking.{taken, unrefused, head_legal}
use Rattle.sheets.proofs.Soundness.{no_head_later}
use Rattle.sheets.proofs.reader.Reader.step.Goals as goal
use Rattle.sheets.proofs.reader.Reader.step.Goals.{In_ok-judge}

-- what the word is judged to say
said : (c : In_ok-judge) → judged (draft_sheet c.args.self.now.draft).size (awaited_from (draft_kind c.args.self.now.draft) (draft_sheet c.args.self.now.draft) c.args.self.now.from) c.args.word ≡ Ok c.in_ok-judge.field-0
said c =
    let d = c.args.self.now.draft in
    ap (λ n. judged n (awaited_from (draft_kind d) (draft_sheet d) c.args.self.now.from) c.args.word) (sym c.size.ensures)
    ∙ ap (λ a. judged c.size.result a c.args.word) (sym c.awaited.ensures) ∙ sym c.in_ok-judge.ensures

pub unreachable-requires : goal.unreachable-requires
unreachable-requires c =
    let d = c.args.self.now.draft in
    no_head_later (draft_kind d) (draft_sheet d) c.args.self.now.from
    (head_legal (draft_sheet d).size c.in-Head.size c.in-Head.kind (awaited_from (draft_kind d) (draft_sheet d) c.args.self.now.from) c.args.word (said (goal.at.unreachable-requires c).In_ok-judge ∙ ap Ok c.in-Head.is)).0

allowed : (d : Draft) (from : ℕ) (word : Word) (a b : ℕ) (facts : Option ℕ × Option ℕ) → judged (draft_sheet d).size (awaited_from (draft_kind d) (draft_sheet d) from) word ≡ Ok (row a b facts)
    → (refusal_of (draft_sheet d) a b facts ≡ None) × (a < 16) × (b < 16)
allowed d from word a b facts h =
    let s = draft_sheet d in
    let law = draft_lawful d in
    let t = taken (draft_kind d) s from word a b facts law.size_legal law.capped h in
    let m = met s.size a b t.meet in
    let small = legal_small s.size law.size_legal in
    (unrefused (draft_kind d) s from word a b facts (draft_carries d a b facts.0 facts.1) t, omega (arith, m.0), omega (arith, m.1))

pub put-requires : goal.put-requires
put-requires c =
    let h = allowed c.args.self.now.draft c.args.self.now.from c.args.word c.in-Row.first c.in-Row.second c.in-Row.facts (said (goal.at.put-requires c).In_ok-judge ∙ ap Ok c.in-Row.is) in
    record { is_not_refused = h.0; first_is_an_entrant = h.1; second_is_an_entrant = h.2 }
