-- The calls that a fault names.
use Rattle.std.specs.Prelude.{ℕ, List, []}
use Rattle.edge_api.specs.declared.call.Called.{Called}
use Rattle.edge_api.specs.declared.call.CallKind.TheVariants as kind

abbrev pub called_now : Called
called_now = record { kind = kind.Now; name = [] }

abbrev pub called_list : List ℕ → Called
called_list prefix = record { kind = kind.List; name = prefix }

abbrev pub called_get : List ℕ → Called
called_get name = record { kind = kind.Get; name = name }

abbrev pub called_put : List ℕ → Called
called_put name = record { kind = kind.PutNew; name = name }

abbrev pub called_replace : List ℕ → Called
called_replace name = record { kind = kind.Put; name = name }

abbrev pub called_delete : List ℕ → Called
called_delete name = record { kind = kind.Delete; name = name }

abbrev pub called_wait : Called
called_wait = record { kind = kind.Wait; name = [] }
