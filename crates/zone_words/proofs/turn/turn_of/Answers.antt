use Rattle.zone_words.proofs.Common.{IfOk-weaker, IsCasedOrigin, IsOneOrNone, arith, entry_of, length-map, map, raw, refl, slice_get, statement_by, subst, ◌∷◌}
use Rattle.zone_words.proofs.Turns.{fewer, stays_no_origin, turn_of_found, turn_of_none}
use Rattle.zone_words.proofs.turn.turn_of.Goals as goal

pub returns-in_default : goal.returns-in_default
returns-in_default c =
    let form = statement_by (slice_get c.args.entry.now 0) (map raw c.args.items.now) in
    turn_of_none c.args.entry.now (map raw c.args.items.now) c.args.line c.args.left.now c.args.stated.now form refl (c.in_default.ensures.none form c.requires)

pub turn_of_record-requires : goal.turn_of_record-requires
turn_of_record-requires c =
    let form = statement_by (slice_get c.args.entry.now 0) (map raw c.args.items.now) in
    let f = c.in-Some.ensures.found form c.requires in
    (let l = fewer (map raw c.args.items.now) (slice_get c.args.entry.now 0) form f.0 c.in-Some.found.word.now (map raw c.in-Some.found.items.now) refl f.1 f.2.from_type in let a = length-map c.args.items.now raw in let b = length-map c.in-Some.found.items.now raw in omega (arith, l, a, b))

pub returns-in-Some-origin : goal.returns-in-Some-origin
returns-in-Some-origin c =
    let form = statement_by (slice_get c.args.entry.now 0) (map raw c.args.items.now) in
    let f = c.in-Some.ensures.found form c.requires in
    IfOk-weaker c.turn_of_record.result _ _
    (λ turn takes. turn_of_found c.args.entry.now c.args.items.now c.args.line c.args.left.now c.turn_of_record.new.stated form f.0 c.in-Some.found _ turn refl f.1 f.2 c.in-Some-origin.is takes)
    c.turn_of_record.ensures

pub returns-in-None : goal.returns-in-None
returns-in-None c = λ origin before all_tokens has cut are. stays_no_origin origin before c.args.line all_tokens c.args.stated.now (subst (λ x. IsOneOrNone (IsCasedOrigin origin (entry_of c.args.line all_tokens ∷ before)) x) c.in-None.is has.under)
