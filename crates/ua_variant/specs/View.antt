-- One level of variants and data values in memory, as the values that they stand for.
use Rattle.std.specs.Prelude.{◌≡◌, List, Option, Some, None, option_map, map}
use Rattle.std.specs.Global.{Vec, Box}
use Rattle.ua_variant.specs.declared.stamps.Stamps.{Stamps}
use Rattle.ua_kind.specs.declared.kind.Kind.{Kind}
pub use Rattle.ua_kind.specs.KindView.{kind_of}
use Rattle.ua_variant.specs.declared.variant.Element.{Element}
use Rattle.ua_variant.specs.declared.variant.Element.TheVariants as elements
use Rattle.ua_variant.specs.declared.variant.Body.{Body}
use Rattle.ua_variant.specs.declared.variant.Body.TheVariants as bodies
use Rattle.ua_variant.specs.declared.variant.Variant.TheInside as outer
use Rattle.ua_variant.specs.declared.variant.DataValue.TheInside as data_outer
use Rattle.ua_variant.specs.Kinds as spec_kinds
use Rattle.ua_variant.specs.Kinds.{plain}
use Rattle.ua_variant.specs.Values as spec
use Rattle.ua_variant.specs.Values.{leaf}
use Rattle.ua_variant.specs.Spelling.{IsVariant, IsDataValue}

abbrev pub element : Element → spec.Element
element (elements.Boolean v) = leaf spec_kinds.boolean v
element (elements.SByte v) = leaf spec_kinds.sbyte v
element (elements.Byte v) = leaf spec_kinds.byte v
element (elements.Int16 v) = leaf spec_kinds.int16 v
element (elements.UInt16 v) = leaf spec_kinds.uint16 v
element (elements.Int32 v) = leaf spec_kinds.int32 v
element (elements.UInt32 v) = leaf spec_kinds.uint32 v
element (elements.Int64 v) = leaf spec_kinds.int64 v
element (elements.UInt64 v) = leaf spec_kinds.uint64 v
element (elements.Float v) = leaf spec_kinds.float v
element (elements.Double v) = leaf spec_kinds.double v
element (elements.String v) = leaf spec_kinds.string v
element (elements.DateTime v) = leaf spec_kinds.date_time v
element (elements.Guid v) = leaf spec_kinds.guid v
element (elements.ByteString v) = leaf spec_kinds.byte_string v
element (elements.XmlElement v) = leaf spec_kinds.xml_element v
element (elements.NodeId v) = leaf spec_kinds.node_id v
element (elements.ExpandedNodeId v) = leaf spec_kinds.expanded_node_id v
element (elements.StatusCode v) = leaf spec_kinds.status_code v
element (elements.QualifiedName v) = leaf spec_kinds.qualified_name v
element (elements.LocalizedText v) = leaf spec_kinds.localized_text v
element (elements.ExtensionObject v) = leaf spec_kinds.extension_object v
element (elements.DataValue d) = spec.data_value d.value
element (elements.Variant v) = spec.variant v.value
element (elements.DiagnosticInfo i) = spec.info i

-- the elements of an array, or null
abbrev pub items_in : Option (Vec Element) → Option (List spec.Element)
items_in o = option_map (λ v. map element v.items) o

abbrev pub body_of : Body → spec.Variant
body_of bodies.Null = spec.null
body_of (bodies.One e) = spec.one (element e)
body_of (bodies.Array k es ds) = spec.array_with (kind_of k) (items_in es.list) ds

abbrev pub data_with : Option spec.Variant → Stamps → spec.DataValue
data_with None s = spec.without s
data_with (Some v) s = spec.with_value v s

abbrev pub data_of : data_outer.Inside → spec.DataValue
data_of a = data_with a.value a.stamps

-- the depth that is kept beside
pub record IsKept (a : outer.Inside) : Type 0 where
  pub value : IsVariant (body_of a.body)
  pub levels : a.levels ≡ spec.depth (body_of a.body)

pub record IsDataKept (a : data_outer.Inside) : Type 0 where
  pub value : IsDataValue (data_of a)
  pub levels : a.levels ≡ spec.data_depth (data_of a)
