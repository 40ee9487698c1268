use Rattle.std.proofs.Common.{◌<◌, ◌∙◌, sym, arith, inl, inr, length}
use Rattle.arrangements.proofs.Tops.{from-place, from-top, one-top, not-empty}
use Rattle.arrangements.proofs.prefixes.Prefix.option_from.Goals as goal

-- there is no top
pub returns-in_default : goal.returns-in_default
returns-in_default c = λ prefix n.
    let some : c.args.place < length c.args.tables.now.edges = elim c.requires.some [ inl h ↦ h | inr w ↦ absurd (not-empty w.0 w.1 (sym w.2 ∙ c.in_default.ensures)) ] in
    from-place c.args.tables.now c.args.self.now.used.items c.args.self.now.opened.items c.args.self.now.stack.items prefix c.args.from c.args.place _ c.keeps.ensures n.right c.requires.place some
    (λ front top s f. absurd (not-empty front top (sym s ∙ c.in_default.ensures))) c.edge.ensures

-- the top is below
pub returns-then-top-from : goal.returns-then-top-from
returns-then-top-from c = λ prefix n.
    let some : c.args.place < length c.args.tables.now.edges = elim c.requires.some [ inl h ↦ h | inr w ↦ absurd (let q = one-top w.0 c.in-Some.ensures.0 w.1 c.in-Some.top (sym w.2 ∙ c.in-Some.ensures.1) in omega (arith, q, w.3, c.if-top-from.true)) ] in
    from-place c.args.tables.now c.args.self.now.used.items c.args.self.now.opened.items c.args.self.now.stack.items prefix c.args.from c.args.place _ c.keeps.ensures n.right c.requires.place some
    (λ front top s f. absurd (let q = one-top front c.in-Some.ensures.0 top c.in-Some.top (sym s ∙ c.in-Some.ensures.1) in omega (arith, q, f, c.if-top-from.true))) c.edge-then-top-from.ensures

-- the top is less
pub returns-then-is_less : goal.returns-then-is_less
returns-then-is_less c = λ prefix n.
    from-top c.args.tables.now c.args.self.now.used.items c.args.self.now.opened.items c.args.self.now.stack.items prefix c.in-Some.ensures.0 c.args.from c.args.place c.in-Some.top c.keeps.ensures n.right c.requires.place n.within
    c.in-Some.ensures.1 (omega (arith, c.if-top-from.false)) (λ h. let q = c.is_less.ensures.less c.if-is_less.true h in omega (arith, q))

-- it is not
pub returns : goal.returns
returns c = λ prefix n.
    let w = c.is_less.ensures.not_less c.if-is_less.false in
    from-place c.args.tables.now c.args.self.now.used.items c.args.self.now.opened.items c.args.self.now.stack.items prefix c.args.from c.args.place _ c.keeps.ensures n.right c.requires.place w.0
    (λ front top s f. let q = one-top front c.in-Some.ensures.0 top c.in-Some.top (sym s ∙ c.in-Some.ensures.1) in omega (arith, q, w.1)) c.edge-2.ensures
