-- A value inside is less deep.
use Rattle.std.specs.Prelude.{◌≡◌, ◌+◌, ◌≤◌, suc, ℤ, List, [], ◌∷◌, Option, Some, None, map}
use Rattle.std.specs.Global.{Vec}
use Rattle.std.proofs.Common.{refl, arith}
use denote.Param.Weighed.{most}
use Rattle.ua_variant.specs.declared.variant.DataValue.TheDeep.{deep-Body, deep-Element, deep-Elements}
use Rattle.ua_variant.specs.declared.variant.Body.{Body}
use Rattle.ua_variant.specs.declared.variant.Body.TheVariants as bodies
use Rattle.ua_variant.specs.declared.variant.Element.{Element}
use Rattle.ua_variant.specs.declared.variant.Element.TheVariants as elements
use Rattle.ua_variant.specs.Kinds.{Kind}
use Rattle.ua_variant.specs.Values as spec
use Rattle.ua_variant.specs.Values.{depth, element_depth, items_depth, list_depth, items_of, array_with}
use Rattle.ua_variant.specs.View.{kind_of, element, items_in, body_of}

falls_element : (e : Element) → deep-Element e ≤ element_depth (element e) + 1
falls_element (elements.Boolean v) = omega arith
falls_element (elements.SByte v) = omega arith
falls_element (elements.Byte v) = omega arith
falls_element (elements.Int16 v) = omega arith
falls_element (elements.UInt16 v) = omega arith
falls_element (elements.Int32 v) = omega arith
falls_element (elements.UInt32 v) = omega arith
falls_element (elements.Int64 v) = omega arith
falls_element (elements.UInt64 v) = omega arith
falls_element (elements.Float v) = omega arith
falls_element (elements.Double v) = omega arith
falls_element (elements.String v) = omega arith
falls_element (elements.DateTime v) = omega arith
falls_element (elements.Guid v) = omega arith
falls_element (elements.ByteString v) = omega arith
falls_element (elements.XmlElement v) = omega arith
falls_element (elements.NodeId v) = omega arith
falls_element (elements.ExpandedNodeId v) = omega arith
falls_element (elements.StatusCode v) = omega arith
falls_element (elements.QualifiedName v) = omega arith
falls_element (elements.LocalizedText v) = omega arith
falls_element (elements.ExtensionObject v) = omega arith
falls_element (elements.DataValue v) = omega arith
falls_element (elements.Variant v) = omega arith
falls_element (elements.DiagnosticInfo v) = omega arith

falls_items : (es : List Element) → most deep-Element es ≤ items_depth (items_of (map element es)) + 1
falls_items [] = omega arith
falls_items (e ∷ es) = omega (arith, falls_element e, falls_items es)

falls_list : (o : Option (Vec Element)) → deep-Elements (record { list = o }) ≤ list_depth (items_in o) + 1
falls_list None = omega arith
falls_list (Some es) = omega (arith, falls_items es.items)

pub depth_of_array : (k : Kind) (o : Option (List spec.Element)) (ds : Option (List ℤ)) → depth (array_with k o ds) ≡ suc (list_depth o)
depth_of_array k None ds = refl
depth_of_array k (Some es) ds = refl

pub falls_body : (b : Body) → deep-Body b ≤ depth (body_of b)
falls_body bodies.Null = omega arith
falls_body (bodies.One e) = omega (arith, falls_element e)
falls_body (bodies.Array k es ds) = omega (arith, falls_list es.list, depth_of_array (kind_of k) (items_in es.list) ds)
