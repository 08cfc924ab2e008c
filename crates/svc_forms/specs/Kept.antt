-- The values that are kept together.
use Rattle.std.specs.Prelude.{List, []}
use Rattle.svc_forms.specs.declared.value.Value.{Value}
use Rattle.svc_forms.specs.declared.values.Kept.{Kept}
use Rattle.svc_forms.specs.declared.values.Kept.TheVariants as kept

-- the values, in their order
abbrev pub values_kept : Kept → List Value
values_kept kept.Zero = []
values_kept (kept.One values) = values
values_kept (kept.Two values) = values
values_kept (kept.Three values) = values
values_kept (kept.Four values) = values
values_kept (kept.Six values) = values
values_kept (kept.Thirteen values) = values
