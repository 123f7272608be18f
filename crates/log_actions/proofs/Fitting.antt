-- What is written nests to four levels, and its integers fit 64 bits.
use Rattle.std.proofs.Common.{◌≡◌, ◌≤◌, ◌<◌, ℕ, suc, ◌^◌, Bool, List, [], ◌∷◌, Option, Some, None, option_map, map, codes, subst, sym, arith}
use Rattle.std.specs.Prelude.{IfSome}
use Rattle.serde_json.specs.Data.{Data, boolean, string, object, Members, no_members, member, depth, items_depth, members_depth}
use Rattle.serde_json.specs.View.{items_of}
use Rattle.json_lines.specs.Kinds.{TextEntry, NullableEntry}
use Rattle.json_lines.specs.Written.{integer_data, texts_data, map_data, text_map_data, text_or_null_data, nullable_map_data, single_object, FitsData, FitsItems, FitsMembers}
use Rattle.log_actions.specs.declared.action.Format.{Format}
use Rattle.log_actions.specs.declared.action.Action.{Action}
use Rattle.log_actions.specs.declared.action.Action.TheVariants.{Protocol, Meta, Add, Remove, Txn, Info, Checkpoint, Sidecar, Ignored}
use Rattle.log_actions.specs.Written.{Fields, members_of, protocol_fields, format_fields, metadata_fields, add_fields, remove_fields, txn_fields, commit_info_fields, checkpoint_fields, sidecar_fields, action_data}
use Rattle.log_actions.specs.Whole.{IsVersion, IsAmount, IsStamp, IsWhole}
use Rattle.log_actions.proofs.Fields.{AllMembers, AllFields, IfThere, AllMembers-members_of, AllMembers-entries_data, each_there}

pub record Fitting (n : ℕ) (d : Data) : Type 0 where
  pub shallow : depth d ≤ n
  pub fits : FitsData d

record FittingMembers (n : ℕ) (ms : Members) : Type 0 where
  shallow : members_depth ms ≤ n
  fits : FitsMembers ms

members_fit : (n : ℕ) (ms : Members) → AllMembers (Fitting n) ms → FittingMembers n ms
members_fit n no_members all = record { shallow = omega arith; fits = tt }
members_fit n (member k d ms) all =
    let first : depth d ≤ n = all.0.shallow in
    let rest = members_fit n ms all.1 in
    let later : members_depth ms ≤ n = rest.shallow in
    record { shallow = omega arith; fits = (all.0.fits, rest.fits) }

object_fits : (n : ℕ) (ms : Members) → AllMembers (Fitting n) ms → Fitting (suc n) (object ms)
object_fits n ms all =
    let inner = members_fit n ms all in
    let depth_in : members_depth ms ≤ n = inner.shallow in
    record { shallow = omega arith; fits = inner.fits }

text_fits : (n : ℕ) (t : List ℕ) → Fitting n (string t)
text_fits n t = record { shallow = omega arith; fits = tt }

flag_fits : (n : ℕ) (b : Bool) → Fitting n (boolean b)
flag_fits n b = record { shallow = omega arith; fits = tt }

integer_fits : (n m : ℕ) → m < 2 ^ 64 → Fitting n (integer_data m)
integer_fits n m h = record { shallow = omega arith; fits = h }

record FittingItems (ts : List (List ℕ)) : Type 0 where
  shallow : items_depth (items_of (map string ts)) ≤ 0
  fits : FitsItems (items_of (map string ts))

items_fit : (ts : List (List ℕ)) → FittingItems ts
items_fit [] = record { shallow = omega arith; fits = tt }
items_fit (t ∷ ts) =
    let rest = items_fit ts in
    let later : items_depth (items_of (map string ts)) ≤ 0 = rest.shallow in
    record { shallow = omega arith; fits = (tt, rest.fits) }

texts_fit : (n : ℕ) (ts : List (List ℕ)) → Fitting (suc n) (texts_data ts)
texts_fit n ts =
    let items = items_fit ts in
    let later : items_depth (items_of (map string ts)) ≤ 0 = items.shallow in
    record { shallow = omega arith; fits = items.fits }

map_fits : (n : ℕ) (es : List TextEntry) → Fitting (suc n) (text_map_data es)
unfolding map_data
map_fits n es = object_fits n _ (AllMembers-entries_data (Fitting n) string no_members es (text_fits n) tt)

null_fits : (n : ℕ) (t : Option (List ℕ)) → Fitting n (text_or_null_data t)
null_fits n None = record { shallow = omega arith; fits = tt }
null_fits n (Some t) = text_fits n t

values_fit : (n : ℕ) (vs : List NullableEntry) → Fitting (suc n) (nullable_map_data vs)
unfolding map_data
values_fit n vs = object_fits n _ (AllMembers-entries_data (Fitting n) text_or_null_data no_members vs (null_fits n) tt)

fields_fit : (n : ℕ) (fs : Fields) → AllFields (Fitting n) fs → Fitting (suc n) (object (members_of fs))
fields_fit n fs all = object_fits n (members_of fs) (AllMembers-members_of (Fitting n) fs all)

single_fits : (name : List ℕ) (fs : Fields) → AllFields (Fitting 2) fs → Fitting 4 (single_object name (members_of fs))
single_fits name fs all = object_fits 3 _ (fields_fit 2 fs all, tt)

texts_there : (o : Option (List (List ℕ))) → IfThere (Fitting 2) (option_map texts_data o)
texts_there o = each_there (Fitting 2) texts_data o (texts_fit 1)

text_there : (o : Option (List ℕ)) → IfThere (Fitting 2) (option_map string o)
text_there o = each_there (Fitting 2) string o (text_fits 2)

flag_there : (o : Option Bool) → IfThere (Fitting 2) (option_map boolean o)
flag_there o = each_there (Fitting 2) boolean o (flag_fits 2)

map_there : (o : Option (List TextEntry)) → IfThere (Fitting 2) (option_map text_map_data o)
map_there o = each_there (Fitting 2) text_map_data o (map_fits 1)

values_there : (o : Option (List NullableEntry)) → IfThere (Fitting 2) (option_map nullable_map_data o)
values_there o = each_there (Fitting 2) nullable_map_data o (values_fit 1)

version_fits : (n : ℕ) → IsVersion n → Fitting 2 (integer_data n)
version_fits n h = integer_fits 2 n (omega (arith, h))

amount_fits : (n : ℕ) → IsAmount n → Fitting 2 (integer_data n)
amount_fits n h = integer_fits 2 n (omega (arith, h))

stamp_fits : (n : ℕ) → IsStamp n → Fitting 2 (integer_data n)
stamp_fits n h = integer_fits 2 n (omega (arith, h))

integer_there : (P : ℕ → Type 0) (o : Option ℕ) → ((n : ℕ) → P n → Fitting 2 (integer_data n)) → IfSome o P → IfThere (Fitting 2) (option_map integer_data o)
integer_there P None f h = tt
integer_there P (Some n) f h = f n h

format_fits : (f : Format) → Fitting 2 (object (members_of (format_fields f)))
format_fits f = fields_fit 1 (format_fields f) (each_there (Fitting 1) text_map_data f.options (map_fits 0), (text_fits 1 f.provider, tt))

pub action_fits : (a : Action) → IsWhole a → IfThere (Fitting 4) (action_data a)
unfolding action_data
action_fits (Protocol p) h =
    single_fits (codes "protocol") (protocol_fields p) (version_fits p.min_reader_version h.0, (version_fits p.min_writer_version h.1, (texts_there p.reader_features, (texts_there p.writer_features, tt))))
action_fits (Meta m) h =
    single_fits (codes "metaData") (metadata_fields m)
    (map_there m.configuration, (integer_there IsAmount m.created_time amount_fits h.1, (text_there m.description, (format_fits m.format, (text_fits 2 m.id, (text_there m.name, (texts_fit 1 m.partition_columns, (text_fits 2 m.schema_string, tt))))))))
action_fits (Add f) h =
    single_fits (codes "add") (add_fields f)
    (flag_fits 2 f.data_change, (amount_fits f.modification_time h.3, (values_fit 1 f.partition_values, (text_fits 2 f.path, (amount_fits f.size h.2, (text_there f.stats, (map_there f.tags, tt)))))))
action_fits (Remove f) h =
    single_fits (codes "remove") (remove_fields f)
    (flag_fits 2 f.data_change, (amount_fits f.deletion_timestamp h.1, (flag_there f.extended_file_metadata, (values_there f.partition_values, (text_fits 2 f.path, (integer_there IsAmount f.size amount_fits h.3, (map_there f.tags, tt)))))))
action_fits (Txn t) h = single_fits (codes "txn") (txn_fields t) (text_fits 2 t.app_id, (version_fits t.version h.0, tt))
action_fits (Info i) h =
    single_fits (codes "commitInfo") (commit_info_fields i)
    (flag_there i.is_blind_append, (text_there i.isolation_level, (text_there i.operation, (integer_there IsVersion i.read_version version_fits h.1, (integer_there IsStamp i.timestamp stamp_fits h.0, (text_there i.txn_id, tt))))))
action_fits (Checkpoint c) h = single_fits (codes "checkpointMetadata") (checkpoint_fields c) (map_there c.tags, (version_fits c.version h.0, tt))
action_fits (Sidecar s) h = single_fits (codes "sidecar") (sidecar_fields s) (integer_there IsAmount s.modification_time amount_fits h.2, (text_fits 2 s.path, (amount_fits s.size_in_bytes h.1, tt)))
action_fits Ignored h = tt

-- the value of a whole action is shallow
pub shallow_of : (a : Action) (d : Data) → Some d ≡ action_data a → IsWhole a → depth d ≤ 4
shallow_of a d is whole = (subst (IfThere (Fitting 4)) (sym is) (action_fits a whole)).shallow
