use Rattle.zone_wire.proofs.Common.{IsClass, IsKind, IsReadable, RawRecord, ap, fails, holds, subst, sym, true, ◌∙◌, ◌≡◌}
use Rattle.zone_wire.proofs.lent.RawRrRef.class_and_kind.Goals as goal

pub returns-in_default-clause-fault : goal.returns-in_default-clause-fault
returns-in_default-clause-fault c = fails (λ class. c.in_default.ensures.none (subst IsClass (sym (ap (λ (v : RawRecord). v.at.class) c.self.view_is)) class))

pub returns-in_default-of_number-clause-fault : goal.returns-in_default-of_number-clause-fault
returns-in_default-of_number-clause-fault c =
    holds (subst IsClass (c.in-Some.ensures.some ∙ ap (λ (v : RawRecord). v.at.class) c.self.view_is) c.known.ensures)
    (fails (λ kind. c.in_default-of_number.ensures.none (subst IsKind (sym (ap (λ (v : RawRecord). v.at.kind) c.self.view_is)) kind)))

pub returns-then-not-is_readable-clause-fault : goal.returns-then-not-is_readable-clause-fault
returns-then-not-is_readable-clause-fault c =
    let refused = c.if-not-is_readable.true in
    holds (subst IsClass (c.in-Some.ensures.some ∙ ap (λ (v : RawRecord). v.at.class) c.self.view_is) c.known.ensures)
    (holds (subst IsKind (c.in-Some-of_number.ensures.some ∙ ap (λ (v : RawRecord). v.at.kind) c.self.view_is) c.known-2.ensures)
    (fails (λ readable. let yes : c.is_readable.result ≡ true = c.is_readable.ensures.1 (subst IsReadable (sym (ap (λ (v : RawRecord). v.at.kind) c.self.view_is)) readable) in cc)))
