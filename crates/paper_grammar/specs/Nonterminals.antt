-- The nonterminals of 3.2, by number, in the order in which it defines them (hyphen for underscore); and the last three, which it does not define. Definitions only.
use Rattle.std.specs.Prelude.{ℕ}

abbrev pub ⟨abort-condition⟩ : ℕ
⟨abort-condition⟩ = 101

abbrev pub ⟨action-attribute⟩ : ℕ
⟨action-attribute⟩ = 102

abbrev pub ⟨action-attribute-list⟩ : ℕ
⟨action-attribute-list⟩ = 103

abbrev pub ⟨action-task⟩ : ℕ
⟨action-task⟩ = 104

abbrev pub ⟨argument⟩ : ℕ
⟨argument⟩ = 105

abbrev pub ⟨assertion⟩ : ℕ
⟨assertion⟩ = 106

abbrev pub ⟨assignment⟩ : ℕ
⟨assignment⟩ = 107

abbrev pub ⟨autonomous⟩ : ℕ
⟨autonomous⟩ = 108

abbrev pub ⟨candidate⟩ : ℕ
⟨candidate⟩ = 109

abbrev pub ⟨candidate-attribute⟩ : ℕ
⟨candidate-attribute⟩ = 110

abbrev pub ⟨candidate-attribute-list⟩ : ℕ
⟨candidate-attribute-list⟩ = 111

abbrev pub ⟨candidate-name⟩ : ℕ
⟨candidate-name⟩ = 112

abbrev pub ⟨caption⟩ : ℕ
⟨caption⟩ = 113

abbrev pub ⟨choice-mode⟩ : ℕ
⟨choice-mode⟩ = 114

abbrev pub ⟨choice-mode-type⟩ : ℕ
⟨choice-mode-type⟩ = 115

abbrev pub ⟨complex-atom⟩ : ℕ
⟨complex-atom⟩ = 116

abbrev pub ⟨component⟩ : ℕ
⟨component⟩ = 117

abbrev pub ⟨component-attribute⟩ : ℕ
⟨component-attribute⟩ = 118

abbrev pub ⟨component-attribute-list⟩ : ℕ
⟨component-attribute-list⟩ = 119

abbrev pub ⟨constant⟩ : ℕ
⟨constant⟩ = 120

abbrev pub ⟨context⟩ : ℕ
⟨context⟩ = 121

abbrev pub ⟨cycle-repeat⟩ : ℕ
⟨cycle-repeat⟩ = 122

abbrev pub ⟨cycle-until⟩ : ℕ
⟨cycle-until⟩ = 123

abbrev pub ⟨data-attribute⟩ : ℕ
⟨data-attribute⟩ = 124

abbrev pub ⟨data-attribute-list⟩ : ℕ
⟨data-attribute-list⟩ = 125

abbrev pub ⟨data-item⟩ : ℕ
⟨data-item⟩ = 126

abbrev pub ⟨data-name⟩ : ℕ
⟨data-name⟩ = 127

abbrev pub ⟨data-type⟩ : ℕ
⟨data-type⟩ = 128

abbrev pub ⟨data-type-definition⟩ : ℕ
⟨data-type-definition⟩ = 129

abbrev pub ⟨decision-attribute⟩ : ℕ
⟨decision-attribute⟩ = 130

abbrev pub ⟨decision-attribute-list⟩ : ℕ
⟨decision-attribute-list⟩ = 131

abbrev pub ⟨decision-task⟩ : ℕ
⟨decision-task⟩ = 132

abbrev pub ⟨default-value⟩ : ℕ
⟨default-value⟩ = 133

abbrev pub ⟨derivation⟩ : ℕ
⟨derivation⟩ = 134

abbrev pub ⟨description⟩ : ℕ
⟨description⟩ = 135

abbrev pub ⟨directive-list⟩ : ℕ
⟨directive-list⟩ = 136

abbrev pub ⟨empty⟩ : ℕ
⟨empty⟩ = 137

abbrev pub ⟨enquiry-attribute⟩ : ℕ
⟨enquiry-attribute⟩ = 138

abbrev pub ⟨enquiry-attribute-list⟩ : ℕ
⟨enquiry-attribute-list⟩ = 139

abbrev pub ⟨enquiry-task⟩ : ℕ
⟨enquiry-task⟩ = 140

abbrev pub ⟨expression⟩ : ℕ
⟨expression⟩ = 141

abbrev pub ⟨expression-list⟩ : ℕ
⟨expression-list⟩ = 142

abbrev pub ⟨false-value⟩ : ℕ
⟨false-value⟩ = 143

abbrev pub ⟨functor-name⟩ : ℕ
⟨functor-name⟩ = 144

abbrev pub ⟨generic-attribute⟩ : ℕ
⟨generic-attribute⟩ = 145

abbrev pub ⟨generic-attribute-list⟩ : ℕ
⟨generic-attribute-list⟩ = 146

abbrev pub ⟨generic-task⟩ : ℕ
⟨generic-task⟩ = 147

abbrev pub ⟨goal⟩ : ℕ
⟨goal⟩ = 148

abbrev pub ⟨ltwh⟩ : ℕ
⟨ltwh⟩ = 149

abbrev pub ⟨mandatory⟩ : ℕ
⟨mandatory⟩ = 150

abbrev pub ⟨mandatory-validation⟩ : ℕ
⟨mandatory-validation⟩ = 151

abbrev pub ⟨nonempty-expression-list⟩ : ℕ
⟨nonempty-expression-list⟩ = 152

abbrev pub ⟨nonempty-parameter-list⟩ : ℕ
⟨nonempty-parameter-list⟩ = 153

-- 01: "the "- " printed under number is plain "-""
abbrev pub ⟨number⟩ : ℕ
⟨number⟩ = 154

abbrev pub ⟨number-of-cycles⟩ : ℕ
⟨number-of-cycles⟩ = 155

abbrev pub ⟨optional⟩ : ℕ
⟨optional⟩ = 156

abbrev pub ⟨optional-argument-attribute-list⟩ : ℕ
⟨optional-argument-attribute-list⟩ = 157

abbrev pub ⟨optional-argument-name⟩ : ℕ
⟨optional-argument-name⟩ = 158

abbrev pub ⟨optional-data-type-definition⟩ : ℕ
⟨optional-data-type-definition⟩ = 159

abbrev pub ⟨optional-directives⟩ : ℕ
⟨optional-directives⟩ = 160

abbrev pub ⟨optional-parameter-attribute-list⟩ : ℕ
⟨optional-parameter-attribute-list⟩ = 161

abbrev pub ⟨param-value⟩ : ℕ
⟨param-value⟩ = 162

abbrev pub ⟨parameter⟩ : ℕ
⟨parameter⟩ = 163

abbrev pub ⟨parameter-declarations⟩ : ℕ
⟨parameter-declarations⟩ = 164

abbrev pub ⟨plan-attribute⟩ : ℕ
⟨plan-attribute⟩ = 165

abbrev pub ⟨plan-attribute-list⟩ : ℕ
⟨plan-attribute-list⟩ = 166

abbrev pub ⟨plan-task⟩ : ℕ
⟨plan-task⟩ = 167

abbrev pub ⟨postcondition⟩ : ℕ
⟨postcondition⟩ = 168

abbrev pub ⟨precondition⟩ : ℕ
⟨precondition⟩ = 169

abbrev pub ⟨priority⟩ : ℕ
⟨priority⟩ = 170

abbrev pub ⟨procedure⟩ : ℕ
⟨procedure⟩ = 171

abbrev pub ⟨process⟩ : ℕ
⟨process⟩ = 172

abbrev pub ⟨range⟩ : ℕ
⟨range⟩ = 173

abbrev pub ⟨range-list⟩ : ℕ
⟨range-list⟩ = 174

abbrev pub ⟨recommendation⟩ : ℕ
⟨recommendation⟩ = 175

abbrev pub ⟨schedule-constraint⟩ : ℕ
⟨schedule-constraint⟩ = 176

abbrev pub ⟨source⟩ : ℕ
⟨source⟩ = 177

abbrev pub ⟨source-attribute-list⟩ : ℕ
⟨source-attribute-list⟩ = 178

abbrev pub ⟨source-attribute⟩ : ℕ
⟨source-attribute⟩ = 179

abbrev pub ⟨support⟩ : ℕ
⟨support⟩ = 180

abbrev pub ⟨support-mode⟩ : ℕ
⟨support-mode⟩ = 181

abbrev pub ⟨support-mode-type⟩ : ℕ
⟨support-mode-type⟩ = 182

abbrev pub ⟨task⟩ : ℕ
⟨task⟩ = 183

abbrev pub ⟨task-attribute⟩ : ℕ
⟨task-attribute⟩ = 184

abbrev pub ⟨task-attribute-list⟩ : ℕ
⟨task-attribute-list⟩ = 185

abbrev pub ⟨terminal-att⟩ : ℕ
⟨terminal-att⟩ = 186

abbrev pub ⟨terminate-condition⟩ : ℕ
⟨terminate-condition⟩ = 187

abbrev pub ⟨textual-constant⟩ : ℕ
⟨textual-constant⟩ = 188

abbrev pub ⟨time-unit⟩ : ℕ
⟨time-unit⟩ = 189

abbrev pub ⟨top-level-component⟩ : ℕ
⟨top-level-component⟩ = 190

abbrev pub ⟨top-level-component-list⟩ : ℕ
⟨top-level-component-list⟩ = 191

abbrev pub ⟨trigger⟩ : ℕ
⟨trigger⟩ = 192

abbrev pub ⟨true-value⟩ : ℕ
⟨true-value⟩ = 193

abbrev pub ⟨unit⟩ : ℕ
⟨unit⟩ = 194

abbrev pub ⟨wait-condition⟩ : ℕ
⟨wait-condition⟩ = 195

abbrev pub ⟨yes-or-no⟩ : ℕ
⟨yes-or-no⟩ = 196

abbrev pub ⟨warning-condition⟩ : ℕ
⟨warning-condition⟩ = 197

abbrev pub ⟨expression-no-and⟩ : ℕ
⟨expression-no-and⟩ = 198

abbrev pub ⟨atom⟩ : ℕ
⟨atom⟩ = 199

-- how many symbols there are, terminals and nonterminals
abbrev pub symbols : ℕ
symbols = 200
