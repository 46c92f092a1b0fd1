use Rattle.std.proofs.Common.{◌≡◌, ◌∙◌, List, ℕ, [], ◌++◌, Some, refl, sym, ap, append-nil}
use Rattle.container_core.specs.Container.{container}
use Rattle.container_core.specs.Shape.{ShapeView}
use Rattle.output_core.specs.Bounds.{Admits, Container}
use Rattle.engine_tests.proofs.sealed.holds_sealed.Goals as goal

-- an output that has taken nothing may take the container of any plaintext
admits_whole : (key key' prefix prefix' taken plain : List ℕ) (shape shape' : ShapeView) → taken ≡ []
    → key' ≡ key → shape' ≡ shape → prefix' ≡ prefix
    → Admits (Some (Container [] key' shape' prefix')) (Some taken) (container key shape prefix plain)
admits_whole key key' prefix prefix' taken plain shape shape' none k s p =
    let same : container key' shape' prefix' plain ≡ container key shape prefix plain =
    (λ i. container (k i) (s i) (p i) plain) in
    let joined : taken ++ container key shape prefix plain ≡ container key shape prefix plain =
    ap (λ held. held ++ container key shape prefix plain) none in
    (taken, refl, (plain, ([], same ∙ sym joined ∙ sym (append-nil (taken ++ container key shape prefix plain)))))

pub run_seal_by-result-requires-clause-may : goal.run_seal_by-result-requires-clause-may
run_seal_by-result-requires-clause-may g c κs within = λ plain.
    admits_whole _ _ _ _ _ plain _ _ c.new-output.ensures.bytes c.new-output.ensures.key c.new-output.ensures.shape
    (c.new-output.ensures.prefix ∙ c.prefix-prefix.ensures)
